-- A meeting to which every rank comes to fill its share of a record.
use Rattle.whole_run_laws.proofs.Words.{◌≡◌, ℕ, ◌∙◌, ap, List, [], ◌∷◌, ◌++◌, map, true, Some, None, arith, same_Some, slice_get, entry_below, Header, Var, Script, Mark, Meet, size_of, read, Counted, told, fill_bytes, is_sound, IsLegal, is_lawful, inner_lengths, IsIndex, place, find_var, look_fill, look_record, code_of_look, advance, Going, offers_of, setting_of, state_after, state_more, comes_to_meeting, puts_at, AllFill, Fills, some_rank, nat_tests}
use Rattle.nc_base.specs.declared.answer.Code.TheVariants as code
use Rattle.whole_run_laws.proofs.Courses.{along_at, offered, offers_met_long}
use Rattle.whole_run_laws.proofs.FilledRecord.{record_puts, record_reads}

-- a filling by name is that of the variable
look_is : (header : Header) (name : List ℕ) (k number r ranks : ℕ) (v : Var) → find_var header name ≡ Some k → slice_get header.vars k ≡ Some v
    → look_fill header name number r ranks ≡ look_record header k number r ranks v
look_is header name k number r ranks v e f = grind (arith, nat_tests)

pub calls_filled : (script : Script) (header : Header) (file : List ℕ) (before later : List Mark) (j k number : ℕ) (name : List ℕ) (v : Var) (index : List ℕ)
    → is_sound header ≡ true → is_lawful script ≡ true → IsLegal script (before ++ Meet j ∷ later)
    → find_var header name ≡ Some k → slice_get header.vars k ≡ Some v
    → ((r : ℕ) (g : Going) → slice_get (state_after script header file before).1 r ≡ Some g → Fills header name number script.ranks r g)
    → told (setting_of script header) (puts_at (setting_of script header) (state_after script header file before) (Meet j)) ≡ None
    → IsIndex (inner_lengths header v) index
    → read (state_after script header file (before ++ Meet j ∷ [])).0.file (place header v (number ∷ index)) (size_of v.kind) ≡ fill_bytes v
calls_filled script header file before later j k number name v index sound lawful legal found there fill none h =
    let state = state_after script header file before in
    let some = some_rank script lawful in
    let along = along_at script header file before (Meet j ∷ later) lawful legal in
    let long = along.long in
    let each = offers_met_long header along ∙ along.long in
    let g = entry_below state.1 0 (omega arith) in
    let accepted : (r : ℕ) (g : Going) → slice_get state.1 r ≡ Some g → code_of_look (look_record header k number r script.ranks v) ≡ code.Ok =
    λ r g e. grind (arith, nat_tests, (fill r g e).accepted, look_is header name k number r script.ranks v found there) in
    let put : AllFill header k v number (offers_of (map (advance header) state.1)) = λ r o e.
    let w = offered header along r o e in
    grind (arith, nat_tests, comes_to_meeting, same_Some, fill r w.going w.was, w.is, look_is header name k number r script.ranks v found there, record_puts header k number r script.ranks v (accepted r w.going w.was), each) in
    ap (λ (z : Counted × List Going). read z.0.file (place header v (number ∷ index)) (size_of v.kind)) (state_more script header file before (Meet j))
    ∙ record_reads (setting_of script header) (offers_of (map (advance header) state.1)) state.0 k number v index sound there
    (grind (arith, nat_tests, accepted 0 g.0 g.1)) put (omega arith) none h
