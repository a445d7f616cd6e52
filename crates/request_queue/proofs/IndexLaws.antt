-- The index of the requests that wait: it stays one as requests come and go, and finds each by its id.
use Rattle.request_queue.proofs.Words.{◌≡◌, ℕ, ◌∙◌, ap, sym, refl, inl, inr, List, [], ◌∷◌, Bool, true, false, cond, eqb, Option, Some, None, filter, option_map, is_some, list_any, AllByRecursion, nat_cmp, nat_cmp_total, values_of, lookup, BTreeMap, get, is_at, values, IsOrdered, cases_eq, cond-true, cond-false, eq-eqb, ne_eqb, eqb-true, or_left, or_right, or_cases, recursion_from_All, All-weaker, All-found, has_id, Request, has_waiting, IsIndex, stands_at, arith, nat_tests}
use Rattle.list_laws.proofs.Optional.{some_or_none}
use Rattle.request_queue.proofs.PlaceLaws.{at_same, at_apart}

abbrev id_at : Option Request → Option ℕ
id_at o = option_map (λ (r : Request). r.id) o

-- the same entries have the same index
pub index_same : (places new_places : BTreeMap ℕ ℕ) (by_place new_by_place : BTreeMap ℕ Request) → new_places.entries ≡ places.entries
    → new_by_place.entries ≡ by_place.entries → IsIndex places by_place → IsIndex new_places new_by_place
index_same places new_places by_place new_by_place e f index id p = grind (arith, nat_tests)

-- ---- one request less

module _ (places new_places : BTreeMap ℕ ℕ) (by_place new_by_place : BTreeMap ℕ Request) (place : ℕ) (r : Request) where
  pub index_removed : IsIndex places by_place → get nat_cmp by_place place ≡ Some r
      → ((q : ℕ) → get nat_cmp new_by_place q ≡ cond (is_at (nat_cmp place) q) None (get nat_cmp by_place q))
      → ((q : ℕ) → get nat_cmp new_places q ≡ cond (is_at (nat_cmp r.id) q) None (get nat_cmp places q))
      → IsIndex new_places new_by_place
  index_removed index there gone unlisted = λ id p. (
    λ h. grind (arith, nat_tests, cases_eq r.id id, cases_eq place p, at_same, at_apart, unlisted id, gone p, (index id p).0, there),
    λ h. grind (arith, nat_tests, cases_eq r.id id, cases_eq place p, at_same, at_apart, unlisted id, gone p, (index id p).1, (index r.id place).1 (ap id_at there)),
  )

  -- ---- one request more

  pub index_added : IsIndex places by_place → get nat_cmp by_place place ≡ None → get nat_cmp places r.id ≡ None
      → ((q : ℕ) → get nat_cmp new_by_place q ≡ cond (is_at (nat_cmp place) q) (Some r) (get nat_cmp by_place q))
      → ((q : ℕ) → get nat_cmp new_places q ≡ cond (is_at (nat_cmp r.id) q) (Some place) (get nat_cmp places q))
      → IsIndex new_places new_by_place
  index_added index free fresh added listed = λ id p. (
    λ h. grind (arith, nat_tests, cases_eq r.id id, cases_eq place p, at_same, at_apart, listed id, added p, (index id p).0, free),
    λ h. grind (arith, nat_tests, cases_eq r.id id, cases_eq place p, at_same, at_apart, listed id, added p, (index id p).1, fresh),
  )

-- ---- which ids it has

lookup_waits : (test : ℕ → Bool) (es : List (ℕ × Request)) (id : ℕ) → id_at (lookup test es) ≡ Some id → has_waiting (values_of es) id ≡ true
lookup_waits test [] id h = cc
lookup_waits test (e ∷ es) id h = grind (arith, nat_tests, lookup_waits test es id, test e.0, cond-true, or_left, eqb e.1.id id, eq-eqb, or_right, cond-false)

abbrev Listed : BTreeMap ℕ ℕ → ℕ × Request → Type 0
Listed places e = get nat_cmp places e.1.id ≡ Some e.0

waits_listed : (places : BTreeMap ℕ ℕ) (es : List (ℕ × Request)) (id : ℕ) → AllByRecursion (Listed places) es → has_waiting (values_of es) id ≡ true
    → is_some (get nat_cmp places id) ≡ true
waits_listed places [] id h w = cc
waits_listed places (e ∷ es) id h w =
    grind (arith, nat_tests, waits_listed places es id h.1, or_cases (eqb e.1.id id) (has_waiting (values_of es) id) w, eqb e.1.id id, eqb-true)

-- ---- the requests of entries

-- a test of the places and a test of the requests that agree keep the same
filter_values : (f : Bool → Bool) (listed : ℕ → Bool) (test : Request → Bool) (es : List (ℕ × Request)) → AllByRecursion (λ (e : ℕ × Request). listed e.0 ≡ test e.1) es
    → values_of (filter (λ (e : ℕ × Request). f (listed e.0)) es) ≡ filter (λ (r : Request). f (test r)) (values_of es)
filter_values f listed test [] h = refl
filter_values f listed test (e ∷ es) h = grind (arith, nat_tests, filter_values f listed test es h.1)

-- ---- an index of requests in order

module _ (places : BTreeMap ℕ ℕ) (by_place : BTreeMap ℕ Request) (ordered : IsOrdered nat_cmp by_place) (index : IsIndex places by_place) where
  all_listed : AllByRecursion (Listed places) by_place.entries
  all_listed =
      recursion_from_All (Listed places) by_place.entries
      (All-weaker (λ (e : ℕ × Request). get nat_cmp by_place e.0 ≡ Some e.1) (Listed places) (λ e h. (index e.1.id e.0).1 (ap id_at h)) by_place.entries
      (All-found nat_cmp_total by_place ordered))

  by_place_of : (id : ℕ) (o : Option ℕ) → get nat_cmp places id ≡ o → is_some o ≡ has_waiting (values by_place) id
  by_place_of id (Some p) e = sym (lookup_waits (is_at (nat_cmp p)) by_place.entries id ((index id p).0 e))
  by_place_of id None e = grind (arith, nat_tests, waits_listed places by_place.entries id all_listed, all_listed)

  -- the index has the ids of the requests
  pub index_has : (id : ℕ) → is_some (get nat_cmp places id) ≡ has_waiting (values by_place) id
  index_has id = by_place_of id (get nat_cmp places id) refl

  pub index_lacks : (id : ℕ) → has_waiting (values by_place) id ≡ false → get nat_cmp places id ≡ None
  index_lacks id h = elim (some_or_none (get nat_cmp places id)) [ inl e ↦ e | inr p ↦ let some = by_place_of id (Some p.0) p.1 in cc ]

  -- ---- the places of some ids

  stands_one : (id place : ℕ) (r : Request) → get nat_cmp by_place place ≡ Some r → stands_at places place id ≡ eqb id r.id
  stands_one id place r there =
      grind (arith, nat_tests, cases_eq id r.id, some_or_none (get nat_cmp places id), (index r.id place).1, (index id place).0, there, ne_eqb, eq-eqb)

  -- an entry stands at the place of one of the ids exactly if its request has one of them
  all_stand : (ids : List ℕ) (listed : ℕ → Bool) → ((place : ℕ) → listed place ≡ list_any (stands_at places place) ids)
      → AllByRecursion (λ (e : ℕ × Request). listed e.0 ≡ has_id ids e.1.id) by_place.entries
  all_stand ids listed is =
      recursion_from_All (λ (e : ℕ × Request). listed e.0 ≡ has_id ids e.1.id) by_place.entries
      (All-weaker (λ (e : ℕ × Request). get nat_cmp by_place e.0 ≡ Some e.1) (λ (e : ℕ × Request). listed e.0 ≡ has_id ids e.1.id)
      (λ e h. is e.0 ∙ (λ i. list_any (λ (id : ℕ). stands_one id e.0 e.1 h i) ids)) by_place.entries (All-found nat_cmp_total by_place ordered))

  -- what is kept of the entries at the places of some ids is kept of the requests of these ids
  pub listed_values : (f : Bool → Bool) (ids : List ℕ) (listed : ℕ → Bool) (w : List Request) → ((place : ℕ) → listed place ≡ list_any (stands_at places place) ids) → values by_place ≡ w
      → values_of (filter (λ (e : ℕ × Request). f (listed e.0)) by_place.entries) ≡ filter (λ (r : Request). f (has_id ids r.id)) w
  listed_values f ids listed w is view =
      filter_values f listed (λ (r : Request). has_id ids r.id) by_place.entries (all_stand ids listed is) ∙ ap (filter (λ (r : Request). f (has_id ids r.id))) view
