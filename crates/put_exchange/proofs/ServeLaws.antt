-- A helper that took the planned messages has served its part.
use Rattle.std.proofs.lemmas.List.{drop_more}
use Rattle.put_exchange.proofs.Words.{◌≡◌, ℕ, ◌+◌, ◌<◌, ◌≤◌, refl, sym, ◌∙◌, ap, subst, List, [], ◌∷◌, ◌++◌, length, Option, Result, Ok, Err, append_assoc, arith, append-nil, length-append, flat_map, IfSome, IsOk, IsErr, OnOk, Owned, DiskCall, with_end-nil, after, with_end, BothTold, said_by, IsOneValued, store_calls, IsBetween, In, Source, cell_of, covered_place, in_map, entry_in, told_window, pieces_in, ArePieces, put_part, cells_in, messages_in, messages_of, Sent, turn_due, Carry, HasPutTaken, HasTaken, IsFilledBy, Told, AreTurns, HaveWindows, IsTurn, Due, counts_due, turns_due, zero, suc, drop, get_or, nat_tests, map}
use Rattle.put_exchange.proofs.PieceLaws.{pieces_are, pieces_covered, pieces_found, pieces_picked}
use Rattle.put_exchange.proofs.PutLaws.{IsPutSoFar, told_begin, told_end, told_more, told_next, told_nothing}
use Rattle.put_exchange.proofs.SentLaws.{messages_carry}
use Rattle.put_exchange.proofs.TakenLaws.{append_parts}

-- ---- calls

pub calls_more : (t : Told) (ts : List Told) (mid now : Option (List DiskCall)) → now ≡ with_end mid (store_calls t)
    → with_end now (flat_map store_calls ts) ≡ with_end mid (flat_map store_calls (t ∷ ts))
calls_more t ts mid now e = grind (arith, nat_tests, append_assoc)

-- ---- what holds of a plan and of the part that it is done on

pub record IsGiven (source : Source) (ranks : ℕ) (list : List Owned) (from len : ℕ) (held : Option (List ℕ)) : Type 0 where
  pub pieces : ArePieces source list
  pub below : (o : Owned) → In list o → o.rank < ranks
  pub one : IsOneValued (said_by (map (λ o. cell_of source o) list))
  pub told : IfSome held (λ file. length file ≡ len)

-- the planned pieces fill a window
pieces_filled : (source : Source) (ranks room : ℕ) (list : List Owned) (t : Told) → ArePieces source list → ((o : Owned) → In list o → o.rank < ranks) → IsTurn list room t
    → IsFilledBy t (cells_in source t (pieces_in ranks list t))
pieces_filled source ranks room list t pieces below turn f x l h =
    covered_place _ _ _ _ x (pieces_found _ _ (pieces_are _ ranks _ t pieces)) l h
    (pieces_covered ranks _ t x below l h (turn.full f x l h))

-- ---- a helper on its way

pub record IsServed {T E : Type 0} (source : Source) (from ranks room : ℕ) (list : List Owned) (all ahead : List Told) (taken : List Sent)
    (held now : Option (List ℕ)) (calls made : Option (List DiskCall)) (end : Result T E) : Type 0 where
  pub turns : AreTurns list room ahead
  pub done : List Sent
  pub whole : messages_of source ranks list all ≡ done ++ messages_of source ranks list ahead
  pub many : length taken ≡ length done
  pub between : taken ≡ done → BothTold (λ old left. IsBetween old (put_part source list from old) left) held now
  pub bytes : OnOk end (taken ≡ done → BothTold (λ old left. IsPutSoFar source list from ahead old left) held now)
  pub device : OnOk end (with_end made (flat_map store_calls ahead) ≡ with_end calls (flat_map store_calls all))

pub served_begin : {T E : Type 0} (source : Source) (from len ranks room : ℕ) (list : List Owned) (all : List Told) (taken : List Sent) (held : Option (List ℕ))
    (calls : Option (List DiskCall)) (x : T) → AreTurns list room all → HaveWindows from len list all → IfSome held (λ file. length file ≡ len) → taken ≡ []
    → IsServed {E = E} source from ranks room list all all taken held held calls calls (Ok x)
served_begin source from len ranks room list all taken held calls x turns windows told none =
    grind (arith, nat_tests, told_nothing held (put_part source list from), told_begin source list from len all held told windows)

-- where the planned messages were taken, those of the window are the planned ones, which carry its pieces
window_messages : {T E : Type 0} (source : Source) (from ranks count : ℕ) (list : List Owned) (t : Told) (done before now : List Sent) (held left : Option (List ℕ)) (end : Result T E)
    (put : HasPutTaken (turn_due from t count) before now held left end) → length before ≡ length done → now ≡ done ++ messages_in source ranks list t
    → (before ≡ done) × Carry source t (pieces_in ranks list t) put.got
window_messages source from ranks count list t done before now held left end put many e =
    grind (arith, nat_tests, append_parts before put.got done (messages_in source ranks list t) many (sym put.taken ∙ e), messages_carry source ranks list t)

-- what one window did
pub record DidTurn {T E : Type 0} (from count : ℕ) (t : Told) (taken more : List Sent) (mid now : Option (List ℕ)) (made drawn : Option (List DiskCall))
    (before end : Result T E) : Type 0 where
  pub took : HasTaken count taken more
  pub put : IsOk before → HasPutTaken (turn_due from t count) taken more mid now end
  pub kept : IsErr before → now ≡ mid
  pub ok : OnOk end (IsOk before)
  pub device : OnOk end (drawn ≡ with_end made (store_calls t))

next_between : {T E : Type 0} (source : Source) (from len ranks room count : ℕ) (list : List Owned) (t : Told) (prior taken more : List Sent) (held mid now : Option (List ℕ))
    (made drawn : Option (List DiskCall)) (before end : Result T E)
    → IsGiven source ranks list from len held → IsTurn list room t → from ≤ t.0 → t.0 + t.1 ≤ from + len → length taken ≡ length prior
    → DidTurn from count t taken more mid now made drawn before end
    → (taken ≡ prior → BothTold (λ old left. IsBetween old (put_part source list from old) left) held mid)
    → more ≡ prior ++ messages_in source ranks list t → BothTold (λ old left. IsBetween old (put_part source list from old) left) held now
next_between source from len ranks room count list t prior taken more held mid now made drawn (Ok x) end given turn low high many d b e =
    let put = d.put refl in
    grind (arith, nat_tests, window_messages source from ranks count list t prior taken more mid now end put many e, told_more source list (pieces_in ranks list t) from len t held mid now given.told given.one, pieces_picked ranks list t given.below, pieces_filled source ranks room list t given.pieces given.below turn)
next_between source from len ranks room count list t prior taken more held mid now made drawn (Err x) end given turn low high many d b e =
    grind (arith, nat_tests, append_parts taken d.took.got prior (messages_in source ranks list t) many (sym d.took.taken ∙ e))

next_bytes : {T E : Type 0} (source : Source) (from len ranks room count : ℕ) (list : List Owned) (t : Told) (ts : List Told) (prior taken more : List Sent) (held mid now : Option (List ℕ))
    (made drawn : Option (List DiskCall)) (before end : Result T E)
    → IsGiven source ranks list from len held → IsTurn list room t → from ≤ t.0 → t.0 + t.1 ≤ from + len → length taken ≡ length prior
    → DidTurn from count t taken more mid now made drawn before end
    → OnOk before (taken ≡ prior → BothTold (λ old left. IsPutSoFar source list from (t ∷ ts) old left) held mid)
    → OnOk end (more ≡ prior ++ messages_in source ranks list t → BothTold (λ old left. IsPutSoFar source list from ts old left) held now)
next_bytes source from len ranks room count list t ts prior taken more held mid now made drawn (Ok x) (Ok y) given turn low high many d b =
    λ e. let put = d.put refl in
    grind (arith, nat_tests, window_messages source from ranks count list t prior taken more mid now (Ok y) put many e, told_next source list (pieces_in ranks list t) from len t ts held mid now given.told given.one, pieces_picked ranks list t given.below, pieces_filled source ranks room list t given.pieces given.below turn)
next_bytes source from len ranks room count list t ts prior taken more held mid now made drawn (Err x) (Ok y) given turn low high many d b = let e = d.ok in absurd cc
next_bytes source from len ranks room count list t ts prior taken more held mid now made drawn before (Err y) given turn low high many d b = tt

next_calls : {T E : Type 0} (t : Told) (ts : List Told) (whole calls made drawn : Option (List DiskCall)) (before end : Result T E) → OnOk end (IsOk before)
    → OnOk end (drawn ≡ with_end made (store_calls t)) → OnOk before (with_end made (flat_map store_calls (t ∷ ts)) ≡ whole) → OnOk end (with_end drawn (flat_map store_calls ts) ≡ whole)
next_calls t ts whole calls made drawn before end ok device b = grind (arith, nat_tests, calls_more)

pub served_next : {T E : Type 0} (source : Source) (from len ranks room count : ℕ) (list : List Owned) (all ahead rest : List Told) (t : Told) (taken more : List Sent)
    (held mid now : Option (List ℕ)) (calls made drawn : Option (List DiskCall)) (before end : Result T E)
    → IsGiven source ranks list from len held → IsServed source from ranks room list all ahead taken held mid calls made before
    → ahead ≡ t ∷ rest → from ≤ t.0 → t.0 + t.1 ≤ from + len → count ≡ length (messages_in source ranks list t) → DidTurn from count t taken more mid now made drawn before end
    → IsServed source from ranks room list all rest more held now calls drawn end
served_next source from len ranks room count list all ahead rest t taken more held mid now calls made drawn before end given s e low high counts d =
    let turns : AreTurns list room (t ∷ rest) = subst (λ (ts : List Told). AreTurns list room ts) e s.turns in
    let a = length-append taken d.took.got in
    let c = length-append s.done (messages_in source ranks list t) in
    let long : length more ≡ length (taken ++ d.took.got) = ap (λ (ms : List Sent). length ms) d.took.taken in
    let many = s.many in
    let got = d.took.many in
    record {
      turns = turns.2;
      done = s.done ++ messages_in source ranks list t;
      whole = s.whole ∙ ap (λ (ts : List Told). s.done ++ messages_of source ranks list ts) e ∙ sym (append_assoc s.done (messages_in source ranks list t) (messages_of source ranks list rest));
      many = omega arith;
      between = next_between source from len ranks room count list t s.done taken more held mid now made drawn before end given turns.0 low high s.many d s.between;
      bytes = next_bytes source from len ranks room count list t rest s.done taken more held mid now made drawn before end given turns.0 low high s.many d
          (subst (λ (ts : List Told). OnOk before (taken ≡ s.done → BothTold (λ old left. IsPutSoFar source list from ts old left) held mid)) e s.bytes);
      device = grind (arith, nat_tests, next_calls, s.device, with_end, flat_map);
    }

pub record IsThrough {T E : Type 0} (source : Source) (from ranks : ℕ) (list : List Owned) (all : List Told) (taken : List Sent)
    (held now : Option (List ℕ)) (calls made : Option (List DiskCall)) (end : Result T E) : Type 0 where
  pub many : length taken ≡ length (messages_of source ranks list all)
  pub between : taken ≡ messages_of source ranks list all → BothTold (λ old left. IsBetween old (put_part source list from old) left) held now
  pub bytes : taken ≡ messages_of source ranks list all → OnOk end (now ≡ after (put_part source list from) held)
  pub device : OnOk end (made ≡ with_end calls (flat_map store_calls all))

bytes_end : {T E : Type 0} (source : Source) (from : ℕ) (list : List Owned) (taken done : List Sent) (ts : List Told) (held now : Option (List ℕ)) (end : Result T E) → ts ≡ [] → taken ≡ done
    → OnOk end (taken ≡ done → BothTold (λ old left. IsPutSoFar source list from ts old left) held now) → OnOk end (now ≡ after (put_part source list from) held)
bytes_end source from list taken done ts held now (Ok x) none e b =
    told_end source list from held now (subst (λ (us : List Told). BothTold (λ old left. IsPutSoFar source list from us old left) held now) none (b e))
bytes_end source from list taken done ts held now (Err x) none e b = tt

calls_end : {T E : Type 0} (ts : List Told) (whole made : Option (List DiskCall)) (end : Result T E) → ts ≡ [] → OnOk end (with_end made (flat_map store_calls ts) ≡ whole) → OnOk end (made ≡ whole)
calls_end ts whole made (Ok x) none b = sym (ap (λ (us : List Told). with_end made (flat_map store_calls us)) none ∙ with_end-nil made) ∙ b
calls_end ts whole made (Err x) none b = tt

pub served_end : {T E : Type 0} (source : Source) (from ranks room : ℕ) (list : List Owned) (all ahead : List Told) (taken : List Sent)
    (held now : Option (List ℕ)) (calls made : Option (List DiskCall)) (end : Result T E)
    → IsServed source from ranks room list all ahead taken held now calls made end → ahead ≡ [] → IsThrough source from ranks list all taken held now calls made end
served_end source from ranks room list all ahead taken held now calls made end s none =
    grind (arith, nat_tests, append-nil s.done, calls_end ahead (with_end calls (flat_map store_calls all)) made end none s.device, bytes_end)

-- ---- the windows that are due, one after another

pub dues_left : (dues : List Due) (i : ℕ) (d : Due) → i < length dues → turns_due (drop i dues) ≡ told_window (get_or dues i d).window ∷ turns_due (drop (i + 1) dues)
dues_left dues i d l = ap (λ (ds : List Due). turns_due ds) (drop_more dues i d l)

pub count_at : (f : Told → ℕ) (dues : List Due) (i : ℕ) (d : Due) → i < length dues → counts_due dues ≡ map f (turns_due dues)
    → (get_or dues i d).count ≡ f (told_window (get_or dues i d).window)
count_at f [] i d l e = absurd (omega arith)
count_at f (due ∷ dues) zero d l e = cc
count_at f (due ∷ dues) (suc i) d l e = let rest : counts_due dues ≡ map f (turns_due dues) = cc in count_at f dues i d (omega arith) rest

pub due_in : (dues : List Due) (i : ℕ) (d : Due) → i < length dues → In (turns_due dues) (told_window (get_or dues i d).window)
due_in dues i d l = in_map (λ (due : Due). told_window due.window) dues (get_or dues i d) (entry_in dues i d l)
