-- The header of a file, by the first bytes of the file.
--     first_bytes bytes            as many as a header can have
--     IsHeaderOf bytes header      the bytes begin with it, and it is sound
--     IsHeaderRefusal bytes r      why they begin with none, or want of memory
use Rattle.std.specs.Prelude.{◌≡◌, ◌^◌, ℕ, List, take, true}
use Rattle.nc_base.specs.declared.header.Header.{Header}
use Rattle.serial_spec.specs.HeaderFaults.{HasFault}
use Rattle.serial_spec.specs.HeaderBytes.{header_len}
use Rattle.serial_spec.specs.SoundHeaders.{is_sound}
use Rattle.cdf_header.specs.Decoded.{BeginsWith}
use Rattle.nc_classic_c.specs.declared.answers.Refusal.{Refusal}
use Rattle.nc_classic_c.specs.declared.answers.Refusal.TheVariants as refusal

abbrev pub first_bytes : List ℕ → List ℕ
first_bytes bytes = take (2 ^ 20) bytes

abbrev pub IsHeaderOf : List ℕ → Header → Type 0
IsHeaderOf bytes header = BeginsWith (first_bytes bytes) header (header_len header) × (is_sound header ≡ true)

abbrev pub IsHeaderRefusal : List ℕ → Refusal → Type 0
IsHeaderRefusal bytes refusal.Memory = Unit {0}
IsHeaderRefusal bytes (refusal.Header e) = HasFault (first_bytes bytes) e
IsHeaderRefusal bytes _ = ⊥
