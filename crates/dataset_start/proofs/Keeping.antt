-- What a script keeps that was read or made.
use Rattle.dataset_start.proofs.Words.{◌≡◌, ℕ, ◌^◌, ◌≤◌, true, List, length, ◌==◌, eqb-true, list_all, and_first, and_second, Extra, Script, are_lawful_hints, is_lawful_extra, is_whole_extra, is_empty, Reads, read_unplaced, read_writable, read_lawful, read_whole, IsKept, within_is, arith, nat_tests}

pub read_kept : (text : List ℕ) (script : Script) → Reads text script → IsKept script
read_kept text script r = grind (arith, nat_tests, read_lawful, read_whole, read_unplaced, read_writable)

pub kept_hints : (script : Script) → IsKept script → are_lawful_hints script.hints ≡ true
kept_hints script k = grind (arith, nat_tests, and_second, and_first)

-- ---- the size of a window

pub kept_wr_buffer : (script : Script) → IsKept script → (1 ≤ script.hints.wr_buffer) × (script.hints.wr_buffer ≤ 2 ^ 25)
kept_wr_buffer script k = grind (arith, nat_tests, within_is 1 (2 ^ 25) script.hints.wr_buffer, and_second, and_first, kept_hints script k)

-- ---- the alignments, and the record count

pub kept_header_align : (script : Script) → IsKept script → (4 ≤ script.hints.header_align) × (script.hints.header_align ≤ 1048576)
kept_header_align script k = grind (arith, nat_tests, within_is, and_first, and_second, kept_hints)

pub kept_var_align : (script : Script) → IsKept script → (4 ≤ script.hints.var_align) × (script.hints.var_align ≤ 1048576)
kept_var_align script k = within_is 4 1048576 script.hints.var_align (and_first _ _ (and_second _ _ (and_first _ _ (kept_hints script k))))

pub kept_records : (script : Script) → IsKept script → script.header.records ≡ 0
kept_records script k = grind (arith, nat_tests, eqb-true, and_first, and_second)

-- ---- what it adds to an existing dataset

pub kept_extras : (script : Script) → IsKept script → list_all is_lawful_extra script.extra ≡ true
kept_extras script k = and_second _ _ (and_first _ _ (and_first _ _ (and_first _ _ (and_first _ _ (and_first _ _ k.lawful)))))

pub kept_whole_extras : (script : Script) → IsKept script → list_all is_whole_extra script.extra ≡ true
kept_whole_extras script k = and_second _ _ k.whole

none_there : (extras : List Extra) → is_empty extras ≡ true → (length extras == 0) ≡ true
none_there extras h = grind (arith, nat_tests)

-- a script that creates a dataset adds nothing
pub kept_created : (script : Script) → IsKept script → script.fresh ≡ true → (length script.extra == 0) ≡ true
kept_created script k f = grind (arith, nat_tests, none_there, and_second, and_first)
