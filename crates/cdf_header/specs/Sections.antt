-- The code's word for a list of a header, and the grammar's.
use Rattle.serial_spec.specs.HeaderFaults.{Entries, Dimensions, Attributes, Variables}
use Rattle.cdf_header.specs.declared.section.Section.{Section}
use Rattle.cdf_header.specs.declared.section.Section.TheVariants as section

abbrev pub section_of : Section → Entries
section_of section.Dimensions = Dimensions
section_of section.Attributes = Attributes
section_of section.Variables = Variables
