-- The messages of a domain, window after window.
use Rattle.put_exchange.proofs.Words.{◌≡◌, ℕ, ◌+◌, ◌^◌, ◌<◌, ◌≤◌, inl, refl, subst, arith, sym, List, [], ◌∷◌, ◌++◌, length, append-nil, flat_map-append, Extent, Owned, In, Source, IsByPlace, IsDomainOf, LieOnPart, AreTurns, at_begin, past_extents, past_sorted, past_twice, extents, EndBelow, IsPast, AreInFront, AreServed, IsAt, ArePieces, Told, turns_ahead, IsTurnWalk, TurnWalk, Window, told_window, counts_due, turns_due, Due, at_next, served_are, served_ends, served_in, served_now, turn_limit, sent_in, message_counts, messages_in, messages_of, Round, nat_tests, common_steps}
use Rattle.put_exchange.proofs.SentLaws.{messages_served}

-- what was packed and what is left of the windows are the whole
pub record IsPacking (source : Source) (ranks room : ℕ) (list : List Owned) (all : List Told) (w : TurnWalk) (rounds : List Round) (dues : List Due) : Type 0 where
  pub ready : IsTurnWalk w
  pub here : IsAt list room (turns_ahead w.windows) w.entries.now
  pub messages : sent_in rounds ++ messages_of source ranks list (turns_ahead w.windows) ≡ messages_of source ranks list all
  pub windows : turns_due dues ++ turns_ahead w.windows ≡ all
  pub many : counts_due dues ++ message_counts source ranks list (turns_ahead w.windows) ≡ message_counts source ranks list all

pub packing_begin : (source : Source) (ranks room : ℕ) (list : List Owned) (all : List Told) (w : TurnWalk) (rounds : List Round) (dues : List Due) → IsTurnWalk w
    → IsAt list room (turns_ahead w.windows) w.entries.now → turns_ahead w.windows ≡ all → rounds ≡ [] → dues ≡ [] → IsPacking source ranks room list all w rounds dues
packing_begin source ranks room list all w rounds dues ready at ahead none nothing = grind (arith, nat_tests)

-- ---- where packing has come to

-- a walk that goes on from there
pub record IsOnward (list : List Owned) (room : ℕ) (w : TurnWalk) : Type 0 where
  pub ready : IsTurnWalk w
  pub at : IsAt list room (turns_ahead w.windows) w.entries.now

pub walk_onward : (place : ℕ) (list : List Owned) (room : ℕ) (domain : Extent) (w v : TurnWalk) → IsByPlace (extents list) → EndBelow (2 ^ 62) (extents list) → IsPast place list v.entries.now
    → place ≤ domain.at → LieOnPart domain.at domain.len (turns_ahead w.windows) → v.windows ≡ w.windows → IsTurnWalk w → AreTurns list room (turns_ahead w.windows) → IsOnward list room v
walk_onward place list room domain w v sorted ends past low on same ready turns = grind (arith, nat_tests, past_sorted _ _ _ sorted past, past_extents, at_begin)

-- the whole domain has what it has
pub own_domain : (list : List Owned) (domain : Extent) → IsDomainOf list domain.at domain.len domain
own_domain list domain = record { low = omega arith; high = omega arith; whole = λ x l h c. (l, h) }

pub past_turn : (list left later : List Owned) (room : ℕ) (ahead rest : List Told) (t : Told) → IsAt list room ahead left → ahead ≡ t ∷ rest → IsPast (t.0 + t.1) left later → IsPast (t.0 + t.1) list later
past_turn list left later room ahead rest t a e p =
    past_twice _ _ _ _ _ (omega arith) (a.past t (subst (λ (ts : List Told). In ts t) (sym e) (inl refl))) p

-- ---- one window more

-- what packing a window asks of its entries
pub record IsToPack (source : Source) (ranks : ℕ) (begun : List Owned) (t : Told) : Type 0 where
  pub ends : EndBelow (2 ^ 62) (extents begun)
  pub hull : t.0 + t.1 < 2 ^ 62
  pub pieces : ArePieces source begun
  pub below : (o : Owned) → In begun o → o.rank < ranks

pub packing_now : (source : Source) (ranks room : ℕ) (list begun : List Owned) (all : List Told) (w v : TurnWalk) (t : Told) (rounds : List Round) (dues : List Due)
    → EndBelow (2 ^ 62) (extents list) → ArePieces source list → ((o : Owned) → In list o → o.rank < ranks) → IsPacking source ranks room list all w rounds dues
    → turns_ahead w.windows ≡ t ∷ turns_ahead v.windows → AreInFront (t.0 + t.1) w.entries.now begun → IsToPack source ranks begun t
packing_now source ranks room list begun all w v t rounds dues ends pieces below p e front =
    let served : AreServed list begun t.0 (t.0 + t.1) = served_now list w.entries.now begun room (turns_ahead w.windows) (turns_ahead v.windows) t p.here e front in
    grind (arith, nat_tests, served_ends list begun t.0 (t.0 + t.1) served ends, turn_limit list w.entries.now room (turns_ahead w.windows) (turns_ahead v.windows) t ends p.here e, served_are source list begun t.0 (t.0 + t.1) served pieces, served_in list begun t.0 (t.0 + t.1))

pub packing_next : (source : Source) (ranks room : ℕ) (list begun : List Owned) (all : List Told) (w v : TurnWalk) (window : Window) (rounds now : List Round) (round : Round) (dues more : List Due)
    (due : Due) → IsPacking source ranks room list all w rounds dues → turns_ahead w.windows ≡ told_window window ∷ turns_ahead v.windows → IsTurnWalk v
    → AreInFront (window.hull.at + window.hull.len) w.entries.now begun → IsPast (window.hull.at + window.hull.len) w.entries.now v.entries.now → now ≡ rounds ++ round ∷ []
    → round.messages.items ≡ messages_in source ranks begun (told_window window) → more ≡ dues ++ due ∷ [] → due.window ≡ window → due.count ≡ length round.messages.items
    → IsPacking source ranks room list all v now more
packing_next source ranks room list begun all w v window rounds now round dues more due p e ready front past pushed packed counted of many =
    grind (
      arith,
      common_steps,
      served_now list w.entries.now begun room (turns_ahead w.windows) (turns_ahead v.windows) (told_window window) p.here e front,
      messages_served source ranks list begun (told_window window) (served_now list w.entries.now begun room (turns_ahead w.windows) (turns_ahead v.windows) (told_window window) p.here e front),
      flat_map-append (λ (r : Round). r.messages.items) rounds (round ∷ []),
      at_next list w.entries.now v.entries.now room (turns_ahead w.windows) (turns_ahead v.windows) (told_window window) p.here e past,
    )

-- what was packed of a domain
pub record IsPacked (source : Source) (ranks : ℕ) (list : List Owned) (all : List Told) (rounds : List Round) (dues : List Due) : Type 0 where
  pub messages : sent_in rounds ≡ messages_of source ranks list all
  pub windows : turns_due dues ≡ all
  pub many : counts_due dues ≡ message_counts source ranks list all

pub packing_end : (source : Source) (ranks room : ℕ) (list : List Owned) (all : List Told) (w : TurnWalk) (rounds : List Round) (dues : List Due)
    → IsPacking source ranks room list all w rounds dues → turns_ahead w.windows ≡ [] → IsPacked source ranks list all rounds dues
packing_end source ranks room list all w rounds dues p none = grind (arith, nat_tests, append-nil (sent_in rounds), append-nil (turns_due dues), append-nil (counts_due dues))
