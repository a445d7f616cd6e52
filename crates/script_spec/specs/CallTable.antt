-- The calls that name no region, one row for each. (own)
--     call_table                what is known of each: its word, its family, the call that is made of what stands behind its word, and what is seen there
--                               of a call
--     row_of_text, row_of       the row of a word, and that of a call
--     of_behind other f call    what f says of what stands behind the call's word, by its family
use Rattle.std.specs.Prelude.{bytes_eq, ℕ, List, [], ◌∷◌, true, false, find, Option, Some, None, is_some, codes}
use Rattle.nc_base.specs.declared.request.Choice.{Choice}
use Rattle.nc_base.specs.declared.request.Call.{Call}
use Rattle.nc_base.specs.declared.request.Call.TheVariants as call

-- what stands behind the word of a call
pub data Family : Type 0 where
  Requests : Family  -- all, or ids
  Size : Family
  Name : Family
  Record : Family  -- a variable, and the number of a record
  Nothing : Family

abbrev pub Behind : Family → Type 0
Behind Requests = Choice
Behind Size = ℕ
Behind Name = List ℕ
Behind Record = List ℕ × ℕ
Behind Nothing = Unit {0}

pub record CallRow : Type 0 where
  pub word : List ℕ
  pub family : Family
  pub made : ℕ → ℕ → Behind family → Call  -- where there are so many ranks, by this one
  pub seen : Call → Option (Behind family)  -- nothing, if it is another call

-- ---- what stands behind each word

abbrev pub waited : Call → Option Choice
waited (call.Wait false choice) = Some choice
waited _ = None

abbrev pub waited_together : Call → Option Choice
waited_together (call.Wait true choice) = Some choice
waited_together _ = None

abbrev pub cancelled : Call → Option Choice
cancelled (call.Cancel choice) = Some choice
cancelled _ = None

abbrev pub buffer_attached : Call → Option ℕ
buffer_attached (call.Attach size) = Some size
buffer_attached _ = None

abbrev pub dimension_asked : Call → Option (List ℕ)
dimension_asked (call.InqDim name) = Some name
dimension_asked _ = None

abbrev pub record_filled : Call → Option (List ℕ × ℕ)
record_filled (call.FillRec name number share ranks) = Some (name, number)
record_filled _ = None

abbrev pub buffer_detached : Call → Option (Unit {0})
buffer_detached call.Detach = Some tt
buffer_detached _ = None

abbrev pub independence_begun : Call → Option (Unit {0})
independence_begun call.BeginIndep = Some tt
independence_begun _ = None

abbrev pub independence_ended : Call → Option (Unit {0})
independence_ended call.EndIndep = Some tt
independence_ended _ = None

abbrev pub records_synced : Call → Option (Unit {0})
records_synced call.SyncRecords = Some tt
records_synced _ = None

-- ---- the table

abbrev pub call_table : List CallRow
call_table =
    record { word = codes "wait"; family = Requests; made = λ ranks r choice. call.Wait false choice; seen = waited }
    ∷ record { word = codes "wait_all"; family = Requests; made = λ ranks r choice. call.Wait true choice; seen = waited_together }
    ∷ record { word = codes "cancel"; family = Requests; made = λ ranks r choice. call.Cancel choice; seen = cancelled }
    ∷ record { word = codes "buffer_attach"; family = Size; made = λ ranks r size. call.Attach size; seen = buffer_attached }
    ∷ record { word = codes "inq_dimlen"; family = Name; made = λ ranks r name. call.InqDim name; seen = dimension_asked }
    ∷ record { word = codes "fill_var_rec"; family = Record; made = λ ranks r place. call.FillRec place.0 place.1 r ranks; seen = record_filled }
    ∷ record { word = codes "buffer_detach"; family = Nothing; made = λ ranks r _. call.Detach; seen = buffer_detached }
    ∷ record { word = codes "begin_indep_data"; family = Nothing; made = λ ranks r _. call.BeginIndep; seen = independence_begun }
    ∷ record { word = codes "end_indep_data"; family = Nothing; made = λ ranks r _. call.EndIndep; seen = independence_ended }
    ∷ record { word = codes "sync_numrecs"; family = Nothing; made = λ ranks r _. call.SyncRecords; seen = records_synced }
    ∷ []

-- ---- the row of a word, and of a call

abbrev pub row_of_text : List ℕ → Option CallRow
row_of_text w = find (λ row. bytes_eq w row.word) call_table

-- a call that names a region has none
abbrev pub row_of : Call → Option CallRow
row_of c = find (λ row. is_some (row.seen c)) call_table

abbrev pub plain_word : Call → List ℕ
plain_word c = elim (row_of c) [ None ↦ [] | Some row ↦ row.word ]

abbrev pub in_row : {A : Type 0} → A → ((f : Family) → Behind f → A) → CallRow → Call → A
in_row other f row c = elim (row.seen c) [ None ↦ other | Some b ↦ f row.family b ]

abbrev pub of_behind : {A : Type 0} → A → ((f : Family) → Behind f → A) → Call → A
of_behind other f c = elim (row_of c) [ None ↦ other | Some row ↦ in_row other f row c ]
