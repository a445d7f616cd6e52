-- The loops that place the variables, of which some are left.
use Rattle.redef_mover.proofs.Words.{◌≡◌, ℕ, ◌+◌, ◌-◌, ◌<◌, ◌≤◌, List, [], ◌∷◌, ◌++◌, length, drop, get_or, map, min, fold, Bool, true, false, cond, Option, Some, None, refl, sym, ap, ◌∙◌, arith, ◌&&◌, MatchOption, filter, not, unwrap_or, enumerate_from, append_assoc, drop_more, drop_all, map-append, append-nil, get_or-map, length-map, sum_by-cons, Header, Var, Byte, header_len, is_record, slab, vsize, least, Numbered, fixed_begins, front_after, begin_at, first_record, record_begins, by_begin, fixed_order, begins_by_number, capped, capped_sum, capped_both, NumberedVar, Place, Side, Old, New, on_side, records_at, fixed_var, record_var, pairs, capped_pairs, vsizes, nat_tests}

-- ---- the variables that two tests choose, from number k on

abbrev pub left : (Numbered → Bool) → (Numbered → Bool) → List Var → ℕ → List Numbered
left p q vars k = filter q (filter p (enumerate_from k (drop k vars)))

left_by : (p q : Numbered → Bool) (vars : List Var) (k : ℕ) (v : Var) → k < length vars → v ≡ get_or vars k v
    → left p q vars k ≡ filter q (cond (p (k, v)) ((k, v) ∷ filter p (enumerate_from (k + 1) (drop (k + 1) vars))) (filter p (enumerate_from (k + 1) (drop (k + 1) vars))))
left_by p q vars k v h there =
    ap (λ (vs : List Var). filter q (filter p (enumerate_from k vs))) (drop_more vars k v h ∙ ap (λ (w : Var). w ∷ drop (k + 1) vars) (sym there))

left_taken : (p q : Numbered → Bool) (vars : List Var) (k : ℕ) (v : Var) → k < length vars → v ≡ get_or vars k v → (p (k, v) && q (k, v)) ≡ true
    → left p q vars k ≡ (k, v) ∷ left p q vars (k + 1)
left_taken p q vars k v h there e = grind (arith, nat_tests, left_by p q vars k v h there)

pub left_passed : (p q : Numbered → Bool) (vars : List Var) (k : ℕ) (v : Var) → k < length vars → v ≡ get_or vars k v → (p (k, v) && q (k, v)) ≡ false
    → left p q vars k ≡ left p q vars (k + 1)
left_passed p q vars k v h there e = grind (arith, nat_tests, left_by p q vars k v h there)

pub left_none : (p q : Numbered → Bool) (vars : List Var) (k : ℕ) → length vars ≤ k → left p q vars k ≡ []
left_none p q vars k h = ap (λ (vs : List Var). filter q (filter p (enumerate_from k vs))) (drop_all k vars h)

abbrev pub fixed_left : Header → ℕ → Side → ℕ → List Numbered
fixed_left header n side k = left (λ v. not (is_record header v.1)) (on_side n side) header.vars k

abbrev pub records_left : Header → ℕ → Side → ℕ → List Numbered
records_left header n side k = left (λ v. is_record header v.1) (on_side n side) header.vars k

-- ---- what is pushed for each of them

module _ {A : Type 0} (f : Numbered → A) (p q : Numbered → Bool) (vars : List Var) (k : ℕ) where
  pub pushed : (v : Var) (x : A) (now after whole : List A) → k < length vars → v ≡ get_or vars k v → (p (k, v) && q (k, v)) ≡ true → x ≡ f (k, v) → after ≡ now ++ x ∷ []
      → now ++ map f (left p q vars k) ≡ whole → after ++ map f (left p q vars (k + 1)) ≡ whole
  pushed v x now after whole h there test is push so_far =
      ap (λ (xs : List A). xs ++ map f (left p q vars (k + 1))) push ∙ append_assoc now (x ∷ []) (map f (left p q vars (k + 1)))
      ∙ ap (λ (y : A). now ++ y ∷ map f (left p q vars (k + 1))) is
      ∙ ap (λ (xs : List Numbered). now ++ map f xs) (sym (left_taken p q vars k v h there test)) ∙ so_far

  pub passed : (v : Var) (now after whole : List A) → k < length vars → v ≡ get_or vars k v → (p (k, v) && q (k, v)) ≡ false → after ≡ now
      → now ++ map f (left p q vars k) ≡ whole → after ++ map f (left p q vars (k + 1)) ≡ whole
  passed v now after whole h there test same so_far = grind (arith, nat_tests, left_passed, left)

  pub all_pushed : (now whole : List A) → length vars ≤ k → now ++ map f (left p q vars k) ≡ whole → now ≡ whole
  all_pushed now whole h so_far = sym (append-nil now) ∙ ap (λ (xs : List Numbered). now ++ map f xs) (sym (left_none p q vars k h)) ∙ so_far

-- ---- the least begin

abbrev pub least_on : Option ℕ → List ℕ → Option ℕ
least_on None ns = least ns
least_on (Some n) ns = Some (fold (λ a b. min a b) n ns)

abbrev pub begins : List Numbered → List ℕ
begins vars = map (λ (w : Numbered). w.1.begin) vars

pub least_next : (p q : Numbered → Bool) (vars : List Var) (k : ℕ) (v : Var) (now : Option ℕ) (n : ℕ) → k < length vars → v ≡ get_or vars k v → (p (k, v) && q (k, v)) ≡ true
    → MatchOption now (n ≡ v.begin) (λ m. n ≡ min m v.begin) → least_on (Some n) (begins (left p q vars (k + 1))) ≡ least_on now (begins (left p q vars k))
least_next p q vars k v now n h there test lesser = grind (arith, nat_tests, fold, left_taken, least_on, begins, left)

pub least_whole : (now : Option ℕ) → least_on now [] ≡ now
least_whole None = refl
least_whole (Some n) = refl

-- ---- places

nobody : Numbered
nobody = (0, record { name = []; dims = []; attrs = []; kind = Byte; begin = 0 })

-- one way to place variables: what begins they get from a number on, where they end, and what one of them takes
pub record Placing : Type 0 where
  pub begins : ℕ → List Numbered → List (ℕ × ℕ)
  pub end : ℕ → List Numbered → ℕ
  pub begin : ℕ → Numbered → ℕ
  pub step : ℕ → Numbered → ℕ
  pub none : (m : ℕ) → begins m [] ≡ []
  pub same : (m : ℕ) → end m [] ≡ m
  pub next : (m : ℕ) (v : Numbered) (vs : List Numbered) → begins m (v ∷ vs) ≡ (v.0, begin m v) ∷ begins (step m v) vs
  pub on : (m : ℕ) (v : Numbered) (vs : List Numbered) → end m (v ∷ vs) ≡ end (step m v) vs

abbrev pub fixed_placing : Header → Placing
fixed_placing header = record {
  begins = fixed_begins header;
  end = front_after header;
  begin = λ m v. begin_at m v.1;
  step = λ m v. begin_at m v.1 + slab header v.1;
  none = λ m. refl;
  same = λ m. refl;
  next = λ m v vs. refl;
  on = λ m v vs. refl;
}

pub sizes_none : (header : Header) (m : ℕ) → m + vsizes header [] ≡ m
sizes_none header m = omega arith

pub sizes_on : (header : Header) (m : ℕ) (v : Numbered) (vs : List Numbered) → m + vsizes header (v ∷ vs) ≡ m + vsize header v.1 + vsizes header vs
sizes_on header m v vs = omega (arith, sum_by-cons (λ (w : Numbered). vsize header w.1) v vs)

abbrev pub kept_apart : ℕ → ℕ → List Numbered → List (ℕ × ℕ)
kept_apart m least vars = map (λ v. (v.0, m + (v.1.begin - least))) vars

abbrev pub old_placing : Header → ℕ → ℕ → Placing
old_placing header m least = record {
  begins = λ e vs. kept_apart m least vs;
  end = λ e vs. e + vsizes header vs;
  begin = λ e v. m + (v.1.begin - least);
  step = λ e v. e + vsize header v.1;
  none = λ e. refl;
  same = sizes_none header;
  next = λ e v vs. refl;
  on = sizes_on header;
}

abbrev pub new_placing : Header → Placing
new_placing header = record {
  begins = record_begins header;
  end = λ e vs. e + vsizes header vs;
  begin = λ e v. e;
  step = λ e v. e + vsize header v.1;
  none = λ e. refl;
  same = sizes_none header;
  next = λ e v vs. refl;
  on = sizes_on header;
}

-- the places so far and those of the variables that are left are the whole
pub record AreLeft (c : Placing) (left : List Numbered) (whole : List (ℕ × ℕ)) (last : ℕ) (now : List Place) (front : ℕ) : Type 0 where
  pub at : ℕ
  pub is : front ≡ capped at
  pub places : pairs now ++ capped_pairs (c.begins at left) ≡ whole
  pub ends : c.end at left ≡ last

-- the first of them is placed
place_next : (c : Placing) (left rest : List Numbered) (v : Numbered) (whole : List (ℕ × ℕ)) (last : ℕ) (now after : List Place) (p : Place) (front next : ℕ)
    → left ≡ v ∷ rest → after ≡ now ++ p ∷ [] → p.number ≡ v.0 → ((m : ℕ) → front ≡ capped m → (p.begin ≡ capped (c.begin m v)) × (next ≡ capped (c.step m v)))
    → AreLeft c left whole last now front → AreLeft c rest whole last after next
place_next c left rest v whole last now after p front next e push number told l =
    let t = told l.at l.is in
    let others = capped_pairs (c.begins (c.step l.at v) rest) in
    record {
      at = c.step l.at v;
      is = t.1;
      places =
          ap (λ (ps : List Place). pairs ps ++ others) push
          ∙ ap (λ (ps : List (ℕ × ℕ)). ps ++ others) (map-append (λ (q : Place). (q.number, q.begin)) now (p ∷ []))
          ∙ append_assoc (pairs now) ((p.number, p.begin) ∷ []) others
          ∙ (λ i. pairs now ++ (number i, t.0 i) ∷ others)
          ∙ ap (λ (bs : List (ℕ × ℕ)). pairs now ++ capped_pairs bs) (sym (ap (c.begins l.at) e ∙ c.next l.at v rest)) ∙ l.places;
      ends = sym (ap (c.end l.at) e ∙ c.on l.at v rest) ∙ l.ends;
    }

place_whole : (c : Placing) (left : List Numbered) (whole : List (ℕ × ℕ)) (last : ℕ) (now : List Place) (front : ℕ) → left ≡ [] → AreLeft c left whole last now front
    → (pairs now ≡ whole) × (front ≡ capped last)
place_whole c left whole last now front e l = (
  sym (append-nil (pairs now)) ∙ ap (λ (bs : List (ℕ × ℕ)). pairs now ++ capped_pairs bs) (sym (ap (c.begins l.at) e ∙ c.none l.at)) ∙ l.places,
  l.is ∙ ap (λ (i : ℕ). capped i) (sym (ap (c.end l.at) e ∙ c.same l.at) ∙ l.ends),
)

-- the first of an order that is left
record IsNext (vars : List Numbered) (k : ℕ) (v : Numbered) (x : NumberedVar) (y : NumberedVar) : Type 0 where
  left : drop k vars ≡ v ∷ drop (k + 1) vars
  is : x ≡ y

next_of : (f : Numbered → NumberedVar) (order : List NumberedVar) (vars : List Numbered) (k : ℕ) (item : NumberedVar) → k < length order → item ≡ get_or order k item → order ≡ map f vars
    → IsNext vars k (get_or vars k nobody) item (f (get_or vars k nobody))
next_of f order vars k item within there e =
    let long = ap (λ (vs : List NumberedVar). length vs) e ∙ length-map vars f in
    record {
      left = drop_more vars k nobody (omega arith);
      is = there ∙ ap (λ (vs : List NumberedVar). get_or vs k item) e ∙ get_or-map f vars k nobody item (omega arith);
    }

none_left : (f : Numbered → NumberedVar) (order : List NumberedVar) (vars : List Numbered) (k : ℕ) → length order ≤ k → order ≡ map f vars → drop k vars ≡ []
none_left f order vars k past e = let long = ap (λ (vs : List NumberedVar). length vs) e ∙ length-map vars f in drop_all k vars (omega arith)

-- ---- the loops

-- the places of the first k of an order that rises as the code asks, whatever header it is of
pub record IsSoFar (c : Header → ℕ → Placing) (f : Header → Numbered → NumberedVar) (order : List NumberedVar) (first k : ℕ) (old now : List Place) (front : ℕ) : Type 0 where
  pub placed : (header : Header) (vars : List Numbered) (n : ℕ) → order ≡ map (f header) vars → first ≡ capped n
      → AreLeft (c header n) (drop k vars) (pairs old ++ capped_pairs ((c header n).begins n vars)) ((c header n).end n vars) now front

module _ (c : Header → ℕ → Placing) (f : Header → Numbered → NumberedVar) (order : List NumberedVar) (first : ℕ) (old : List Place) where
  pub none_so_far : IsSoFar c f order first 0 old old first
  none_so_far = record { placed = λ header vars n e g. record { at = n; is = g; places = refl; ends = refl } }

  next_so_far : (k : ℕ) (now after : List Place) (front begin next : ℕ) (item : NumberedVar) → k < length order → item ≡ get_or order k item
      → after ≡ now ++ record { number = item.number; begin = begin } ∷ [] → ((header : Header) (v : Numbered) → (f header v).number ≡ v.0)
      → ((header : Header) (v : Numbered) (n m : ℕ) → item ≡ f header v → first ≡ capped n → front ≡ capped m
      → (begin ≡ capped ((c header n).begin m v)) × (next ≡ capped ((c header n).step m v)))
      → IsSoFar c f order first k old now front → IsSoFar c f order first (k + 1) old after next
  next_so_far k now after front begin next item within there push number told so_far =
      grind (arith, nat_tests, nobody, next_of, place_next, item.number, so_far.placed, get_or)

  pub whole_so_far : (k : ℕ) (now : List Place) (front : ℕ) → length order ≤ k → IsSoFar c f order first k old now front → (header : Header) (vars : List Numbered) (n : ℕ)
      → order ≡ map (f header) vars → first ≡ capped n → (pairs now ≡ pairs old ++ capped_pairs ((c header n).begins n vars)) × (front ≡ capped ((c header n).end n vars))
  whole_so_far k now front past so_far header vars n e g = grind (arith, nat_tests, place_whole, none_left, so_far.placed, pairs, capped_pairs, capped)

abbrev pub FixedSoFar : List NumberedVar → ℕ → ℕ → List Place → List Place → ℕ → Type 0
FixedSoFar order first k old now front = IsSoFar (λ header n. fixed_placing header) fixed_var order first k old now front

pub fixed_next : (order : List NumberedVar) (first k : ℕ) (old now after : List Place) (front begin next : ℕ) (item : NumberedVar) → k < length order → item ≡ get_or order k item
    → ((m : ℕ) → front ≡ capped m → begin ≡ capped (first_record m (Some item.begin))) → next ≡ capped (begin + item.len)
    → after ≡ now ++ record { number = item.number; begin = begin } ∷ []
    → FixedSoFar order first k old now front → FixedSoFar order first (k + 1) old after next
fixed_next order first k old now after front begin next item within there at to push so_far = grind (arith, nat_tests, next_so_far, capped_both)

abbrev pub OldSoFar : List NumberedVar → ℕ → ℕ → ℕ → List Place → List Place → ℕ → Type 0
OldSoFar order first least k old now end = IsSoFar (λ header m. old_placing header m least) record_var order first k old now end

pub old_next : (order : List NumberedVar) (first least k : ℕ) (old now after : List Place) (end begin next : ℕ) (item : NumberedVar) → k < length order → item ≡ get_or order k item
    → begin ≡ capped (first + (item.begin - least)) → next ≡ capped (end + item.len)
    → after ≡ now ++ record { number = item.number; begin = begin } ∷ []
    → OldSoFar order first least k old now end → OldSoFar order first least (k + 1) old after next
old_next order first least k old now after end begin next item within there at to push so_far = grind (arith, nat_tests, next_so_far, capped_sum, capped_both)

pub record NewSoFar (header : Header) (n first k : ℕ) (old now : List Place) (begin : ℕ) : Type 0 where
  pub placed : (m : ℕ) → first ≡ capped m
      → AreLeft (new_placing header) (records_left header n New k) (pairs old ++ capped_pairs (record_begins header m (records_at header n New))) (m + vsizes header (records_at header n New)) now begin

pub new_none : (header : Header) (n first : ℕ) (old : List Place) → NewSoFar header n first 0 old old first
new_none header n first old = record { placed = λ m e. record { at = m; is = e; places = refl; ends = refl } }

pub new_next : (header : Header) (n first k : ℕ) (v : Var) (old now after : List Place) (begin next bytes : ℕ) → k < length header.vars → v ≡ get_or header.vars k v
    → (is_record header v && on_side n New (k, v)) ≡ true → bytes ≡ capped (vsize header v) → next ≡ capped (begin + bytes)
    → after ≡ now ++ record { number = k; begin = begin } ∷ []
    → NewSoFar header n first k old now begin → NewSoFar header n first (k + 1) old after next
new_next header n first k v old now after begin next bytes within there test sized to push so_far = record {
  placed = grind (arith, nat_tests, place_next (new_placing header) (records_left header n New k) (records_left header n New (k + 1)) (k, v), left_taken, capped_both);
}

pub new_passed : (header : Header) (n first k : ℕ) (v : Var) (old now : List Place) (begin : ℕ) → k < length header.vars → v ≡ get_or header.vars k v
    → (is_record header v && on_side n New (k, v)) ≡ false
    → NewSoFar header n first k old now begin → NewSoFar header n first (k + 1) old now begin
new_passed header n first k v old now begin within there test so_far = grind (arith, nat_tests, left_passed)

pub new_whole : (header : Header) (n first k : ℕ) (old now : List Place) (begin : ℕ) → length header.vars ≤ k → NewSoFar header n first k old now begin
    → (m : ℕ) → first ≡ capped m → pairs now ≡ pairs old ++ capped_pairs (record_begins header m (records_at header n New))
new_whole header n first k old now begin past so_far m e =
    (place_whole (new_placing header) (records_left header n New k) _ _ now begin (left_none (λ w. is_record header w.1) (on_side n New) header.vars k past) (so_far.placed m e)).0

-- ---- all of them

pub placed_all : (header : Header) (n : ℕ) (p q r s : List Place) (low : Option ℕ) (base : ℕ) → p ≡ [] → low ≡ least (map (λ (v : Numbered). v.1.begin) (records_at header n Old)) → base ≡ unwrap_or low 0
    → pairs q ≡ pairs p ++ capped_pairs (fixed_begins header (header_len header) (fixed_order header n))
    → pairs r ≡ pairs q ++ capped_pairs (kept_apart (first_record (front_after header (header_len header) (fixed_order header n)) low) base (by_begin (records_at header n Old)))
    → pairs s ≡ pairs r ++ capped_pairs (record_begins header (first_record (front_after header (header_len header) (fixed_order header n)) low + vsizes header (records_at header n Old)) (records_at header n New))
    → pairs s ≡ capped_pairs (begins_by_number header n)
placed_all header n p q r s low base none is unwrapped fixed old new =
    let cap : ℕ × ℕ → ℕ × ℕ = λ z. (z.0, capped z.1) in
    let a = fixed_begins header (header_len header) (fixed_order header n) in
    let m = λ (o : Option ℕ). first_record (front_after header (header_len header) (fixed_order header n)) o in
    let x = λ (o : Option ℕ) (b : ℕ). kept_apart (m o) b (by_begin (records_at header n Old)) in
    let y = λ (o : Option ℕ). record_begins header (m o + vsizes header (records_at header n Old)) (records_at header n New) in
    new ∙ (λ i. old i ++ capped_pairs (y low)) ∙ (λ i. (fixed i ++ capped_pairs (x low base)) ++ capped_pairs (y low))
    ∙ (λ i. ((pairs (none i) ++ capped_pairs a) ++ capped_pairs (x (is i) ((unwrapped ∙ ap (λ (o : Option ℕ). unwrap_or o 0) is) i))) ++ capped_pairs (y (is i)))
    ∙ (λ i. sym (map-append cap a (x (least (begins (records_at header n Old))) (unwrap_or (least (begins (records_at header n Old))) 0))) i ++ capped_pairs (y (least (begins (records_at header n Old)))))
    ∙ sym (map-append cap (a ++ x (least (begins (records_at header n Old))) (unwrap_or (least (begins (records_at header n Old))) 0)) (y (least (begins (records_at header n Old)))))
