-- A helper that reads window after window: what is left to be read gives the whole.
use Rattle.std.proofs.lemmas.List.{drop_more}
use Rattle.get_exchange.proofs.Words.{◌≡◌, ℕ, ◌+◌, ◌-◌, ◌≤◌, inl, inr, refl, sym, ◌∙◌, ap, subst, List, [], ◌∷◌, ◌++◌, length, drop, Option, None, Result, append_assoc, arith, append-nil, length-append, flat_map, IfSome, OnOk, Extent, Owned, DiskCall, with_end-nil, with_end-with_end, with_end, StepErr, load_calls, In, read, Window, told_window, HasFetched, get_turns, reading_of, AreRead, HasGot, IsGetPlan, LieOnPart, IsDomainOf, PartState, domain_of, IsStartedFor, Told, turns_of, Reading, Hull, ReadWorker, GetPlan, domain_part, nat_tests, DiskGhosts, IsLater, part_state, ◌<◌, get_or, Some, map}
use mathlib.Core.List.{IsPrefix}

abbrev readings : ℕ → List ℕ → List Told → List Reading
readings from file ts = map (λ t. reading_of from file t) ts

pub record IsFetching (from len : ℕ) (all ahead : List Told) (put : List Reading) (held : Option (List ℕ)) (calls made : Option (List DiskCall)) : Type 0 where
  pub on_part : LieOnPart from len ahead
  pub many : length put + length ahead ≡ length all
  pub read : IfSome held (λ file. put ++ readings from file ahead ≡ readings from file all)
  pub device : with_end made (flat_map load_calls ahead) ≡ with_end calls (flat_map load_calls all)

pub get_on : (list : List Owned) (cover : List Extent) (size from len : ℕ) (domain : Extent) → IsGetPlan list cover size → IsDomainOf list from len domain
    → LieOnPart from len (turns_of size domain cover)
get_on list cover size from len domain p d = λ t m. domain_part size domain cover from len p.some p.covers d.low d.high t m

-- the window that comes next, and those behind it
pub windows_left : (windows : List Window) (i : ℕ) (d : Window) → i < length windows → map told_window (drop i windows) ≡ told_window (get_or windows i d) ∷ map told_window (drop (i + 1) windows)
windows_left windows i d l = ap (λ (ws : List Window). map told_window ws) (drop_more windows i d l)

pub fetch_begin : (from len : ℕ) (all : List Told) (put : List Reading) (held : Option (List ℕ)) (calls : Option (List DiskCall)) → LieOnPart from len all → put ≡ []
    → IsFetching from len all all put held calls calls
fetch_begin from len all put held calls on none = grind (arith, nat_tests)

-- where the next window lies
pub fetch_on : {from len : ℕ} {all ahead rest : List Told} {t : Told} {put : List Reading} {held : Option (List ℕ)} {calls made : Option (List DiskCall)} → IsFetching from len all ahead put held calls made
    → ahead ≡ t ∷ rest → (from ≤ t.0) × (t.0 + t.1 ≤ from + len)
fetch_on {t = t} s e = s.on_part t (subst (λ (ts : List Told). In ts t) (sym e) (inl refl))

-- one window more
pub fetch_next : (from here len : ℕ) (all ahead rest : List Told) (t : Told) (put now : List Reading) (hull : List ℕ) (held told : Option (List ℕ)) (calls made drawn : Option (List DiskCall))
    → IsFetching from len all ahead put held calls made → ahead ≡ t ∷ rest → now ≡ put ++ Hull hull ∷ []
    → here ≡ from → told ≡ held → IfSome told (λ file. hull ≡ read file (t.0 - here) t.1) → drawn ≡ with_end made (load_calls t) → IsFetching from len all rest now held calls drawn
fetch_next from here len all ahead rest t put now hull held told calls made drawn s e more same kept got device = record {
  on_part = λ u m. s.on_part u (subst (λ (ts : List Told). In ts u) (sym e) (inr m));
  many = (omega (arith, ap (λ (ts : List Told). length ts) e, ap (λ (rs : List Reading). length rs) more, length-append put (Hull hull ∷ []), s.many));
  read = by_held held s.read (subst (λ (m : Option (List ℕ)). IfSome m (λ file. hull ≡ read file (t.0 - from) t.1)) kept (subst (λ (n : ℕ). IfSome told (λ file. hull ≡ read file (t.0 - n) t.1)) same got));
  device = grind (arith, nat_tests, with_end-with_end, s.device, with_end, flat_map);
}
  where
    by_held : (o : Option (List ℕ)) → IfSome o (λ file. put ++ readings from file ahead ≡ readings from file all) → IfSome o (λ file. hull ≡ read file (t.0 - from) t.1)
        → IfSome o (λ file. now ++ readings from file rest ≡ readings from file all)
    by_held None r g = tt
    by_held (Some file) r g = ap (λ (rs : List Reading). rs ++ readings from file rest) more ∙ append_assoc put (Hull hull ∷ []) (readings from file rest)
        ∙ ap (λ (b : List ℕ). put ++ (Hull b ∷ readings from file rest)) g ∙ sym (ap (λ (ts : List Told). put ++ readings from file ts) e) ∙ r

pub fetch_end : (from len : ℕ) (all ahead : List Told) (put : List Reading) (held : Option (List ℕ)) (calls made : Option (List DiskCall)) → IsFetching from len all ahead put held calls made
    → ahead ≡ [] → (length put ≡ length all) × IfSome held (λ file. put ≡ readings from file all) × (made ≡ with_end calls (flat_map load_calls all))
fetch_end from len all ahead put held calls made s none = grind (arith, nat_tests, with_end-nil made, append-nil put)

-- ---- a helper that was joined

-- reads that were done, or cut off by what came later: those of a plan on a part, beside its domain
abbrev pub GotBy : {D T : Type 0} → DiskGhosts D → GetPlan → Result T StepErr → D × Extent → D → Type 0
GotBy disk plan end p new = HasGot (get_turns plan p.1) (part_state disk p.0) (part_state disk new) end

pub got_later : {D T : Type 0} (disk : DiskGhosts D) (plan : GetPlan) → IsLater {T = T} (GotBy disk plan)
got_later disk plan end came p new ok h = grind (arith, nat_tests)

pub joined_fetched : {D T : Type 0} (plan : GetPlan) (worker : ReadWorker D) (old new : PartState) (put : List Reading) (end : Result T StepErr) → IsStartedFor plan worker
    → HasFetched (map told_window worker.helper.awaited.windows.value.items) old new put end → HasFetched (get_turns plan (domain_of worker)) old new put end
joined_fetched plan worker old new put end is fetched = subst (λ (ts : List Told). HasFetched ts old new put end) is.windows fetched

front_read : (ts : List Told) (from : ℕ) (held : Option (List ℕ)) (put taken : List Reading) → IfSome held (λ file. put ≡ readings from file ts) → IsPrefix taken put
    → IfSome held (λ file. IsPrefix taken (readings from file ts))
front_read ts from None put taken e front = tt
front_read ts from (Some file) put taken e front = subst (λ (rs : List Reading). IsPrefix taken rs) e front

whole_read : (ts : List Told) (from : ℕ) (held : Option (List ℕ)) (put taken : List Reading) → IfSome held (λ file. put ≡ readings from file ts) → taken ≡ put
    → IfSome held (λ file. taken ≡ readings from file ts)
whole_read ts from None put taken e same = tt
whole_read ts from (Some file) put taken e same = same ∙ e

-- what was taken off the line is what was put, as far as it goes
pub taken_read : {T : Type 0} (ts : List Told) (old new : PartState) (put taken : List Reading) (end : Result T StepErr) → HasFetched ts old new put end → IsPrefix taken put
    → (length taken ≡ length put → taken ≡ put) → OnOk end (AreRead ts old.from old.held taken)
taken_read ts old new put taken end f front whole = grind (arith, nat_tests, front_read, whole_read)
