-- The header of a script for a new dataset.
use Rattle.script_laws.proofs.Words.{◌≡◌, ℕ, List, true, arith, nat_le, ◌==◌, count_by, slice_get, each_passes, lt-leb, and_from, not-true, Script, is_version, is_writable_attr, is_unplaced, has_writable_parts, is_unlimited, Defined, header_of, most_lines, Reads, nat_tests, le-leb}
use Rattle.script_laws.proofs.ListLaws.{all_pass, none_passes}
use Rattle.script_laws.proofs.WordLaws.{small_fits}
use Rattle.script_laws.proofs.DefinedLaws.{FitsDefined}
use Rattle.script_laws.proofs.ReadLaws.{read_script}

-- ---- variables without places

unplaced_of : (version lines : ℕ) (d : Defined) → is_version version ≡ true → FitsDefined version lines d → is_unplaced (header_of version d) ≡ true
unplaced_of version lines d good f =
    grind (arith, nat_tests, count_by is_unlimited d.dims, slice_get, none_passes, nat_le, lt-leb, le-leb, all_pass)

pub read_unplaced : (text : List ℕ) (s : Script) → Reads text s → s.fresh ≡ true → is_unplaced s.header ≡ true
read_unplaced text s =
    read_script text s (λ t. t.fresh ≡ true → is_unplaced t.header ≡ true) (λ version ranks known calls parts new.
    let old = not-true (version == 0) new in unplaced_of version most_lines known.defined (parts.head old) (parts.known.fresh old))

-- ---- parts that fit their fields

parts_fit : (version : ℕ) (d : Defined) → FitsDefined version most_lines d → has_writable_parts (header_of version d) ≡ true
parts_fit version d f = grind (arith, nat_tests, each_passes (is_writable_attr version) d.attrs f.attrs, small_fits, all_pass, and_from)

pub read_writable : (text : List ℕ) (s : Script) → Reads text s → s.fresh ≡ true → has_writable_parts s.header ≡ true
read_writable text s =
    read_script text s (λ t. t.fresh ≡ true → has_writable_parts t.header ≡ true) (λ version ranks known calls parts new.
    parts_fit version known.defined (parts.known.fresh (not-true (version == 0) new)))
