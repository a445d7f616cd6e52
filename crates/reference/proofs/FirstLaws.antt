-- The ranks before the first step, one after another.
use Rattle.reference.proofs.Words.{◌≡◌, ℕ, ◌+◌, ◌<◌, ◌≤◌, sym, ◌∙◌, ap, subst, inl, inr, ◌⊎◌, cases_lt, List, [], ◌∷◌, ◌++◌, length, map, take, get_or, true, Some, length-append, arith, nat_tests, map-append, take_all, take_more, get_or_from_slice_get, same_Some, slice_get_read, slice_get_within, slice_get, Header, Call, Script, is_sound, is_lawful, record_limit, advance, first_going, sound_small, Arrived, first_stand, ranks_lawful, way_begins, counted, going_of, HasGone, IsRunner, MayGoOn, all_arrived, IsStanding, Runner, Stand, get_left, get_right}
use Rattle.reference.specs.Stands.{AreFirst}

-- the calls of a rank, as they are read
pub own_there : (calls list : List (List Call)) (i : ℕ) (item own : List Call) → list ≡ calls → i < length list → item ≡ get_or list i item → own ≡ item
    → slice_get calls i ≡ Some own
own_there calls list i item own e l is f = grind (arith, nat_tests, slice_get_read)

pub ready_first : (script : Script) (header : Header) (r : ℕ) (own : List Call) → is_lawful script ≡ true → slice_get script.calls r ≡ Some own → MayGoOn (first_going header own)
ready_first script header r own lawful e =
    grind (arith, nat_tests, ranks_lawful script lawful, slice_get_within script.calls r own e, way_begins script header r own lawful e)

first_runner : (script : Script) (header : Header) (r : ℕ) (own : List Call) (runner : Runner) → is_sound header ≡ true → is_lawful script ≡ true → slice_get script.calls r ≡ Some own
    → runner.rank.header ≡ header → HasGone header (first_going header own) (going_of runner) runner.held → IsRunner script header [] r runner
first_runner script header r own runner sound lawful e same gone = record {
  of_header = same;
  low = subst (λ (n : ℕ). n < record_limit header.version) (sym gone.known) (sound_small header sound);
  asked = gone.asked;
  placed = gone.placed script [] r (way_begins script header r own lawful e);
}

pub first_more : (script : Script) (header : Header) (n : ℕ) (runners more : List Runner) (own : List Call) (runner : Runner) → is_sound header ≡ true → is_lawful script ≡ true
    → slice_get script.calls n ≡ Some own → runner.rank.header ≡ header → HasGone header (first_going header own) (going_of runner) runner.held → more ≡ runners ++ runner ∷ []
    → AreFirst script header n runners → AreFirst script header (n + 1) more
first_more script header n runners more own runner sound lawful e same gone pushed are =
    subst (λ (xs : List Runner). AreFirst script header (n + 1) xs) (sym pushed) (record {
      long = let l = length-append runners (runner ∷ []) in let m = are.long in omega arith;
      arrived = map-append _ runners (runner ∷ []) ∙ (λ i. are.arrived i ++ gone.arrived i ∷ []) ∙ sym (map-append go (take n script.calls) (own ∷ [])) ∙ ap (map go) (sym taken);
      each = λ r x f. by_place r x f (cases_lt r n);
    })
  where
    go : List Call → Arrived
    go own' = advance header (first_going header own')

    taken : take (n + 1) script.calls ≡ take n script.calls ++ own ∷ []
    taken = take_more script.calls n own (slice_get_within script.calls n own e)
        ∙ ap (λ (x : List Call). take n script.calls ++ x ∷ []) (get_or_from_slice_get script.calls n own own e)

    by_place : (r : ℕ) (x : Runner) → slice_get (runners ++ runner ∷ []) r ≡ Some x → (r < n) ⊎ (n ≤ r) → IsRunner script header [] r x
    by_place r x f (inl below) = let l = are.long in are.each r x (sym (get_left runners (runner ∷ []) r (omega arith)) ∙ f)
    by_place r x f (inr above) =
        let l = are.long in
        let within = slice_get_within (runners ++ runner ∷ []) r x f in
        let both = length-append runners (runner ∷ []) in
        let last : r ≡ length runners + 0 = omega arith in
        let at : r ≡ n = omega arith in
        let is : runner ≡ x = same_Some runner x (sym (get_right runners (runner ∷ []) 0 r last) ∙ f) in
        subst (λ (y : Runner). IsRunner script header [] r y) is
        (subst (λ (k : ℕ). IsRunner script header [] k runner) (sym at) (first_runner script header n own runner sound lawful e same gone))

pub first_is : (script : Script) (header : Header) (n : ℕ) (file bytes : List ℕ) (runners : List Runner) → length script.calls ≤ n → AreFirst script header n runners → file ≡ bytes
    → (counted file header.records, all_arrived runners) ≡ first_stand header bytes script.calls
first_is script header n file bytes runners l are e = grind (arith, nat_tests, take_all)

pub first_stands : (script : Script) (header : Header) (n : ℕ) (stand : Stand) → is_sound header ≡ true → is_lawful script ≡ true → n ≡ length script.calls
    → AreFirst script header n stand.runners.items → stand.records ≡ header.records → IsStanding script header [] stand
first_stands script header n stand sound lawful l are e = grind (arith, nat_tests, ranks_lawful script lawful, sound_small header sound)
