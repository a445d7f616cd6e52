-- What of the messages of a part is left to be put on its line. (own)
--     sent_in rounds             the messages of rounds one after another
--     feed_left feed             the messages that are left
--     HaveFed old new            what was left is what was put, and what is left now
--     next_round_of feed         the round of the next ones
--     rounds_in workers          the rounds that are left
--     HasSent old new            messages of a part were put, and the rest is left
use Rattle.std.specs.Prelude.{◌≡◌, ℕ, List, ◌++◌, flat_map, length, slice_get, Option, Some, None}
use Rattle.put_exchange.specs.Sent.{Sent}
use Rattle.put_exchange.specs.declared.packing.Round.{Round}
use Rattle.put_exchange.specs.declared.sending.Feed.{Feed}
use Rattle.put_exchange.specs.declared.handing.Worker.{Worker}

abbrev pub sent_in : List Round → List Sent
sent_in rounds = flat_map (λ r. r.messages.items) rounds

abbrev pub feed_left : Feed → List Sent
feed_left f = sent_in f.rounds.items

pub record HaveFed (old new : Feed) : Type 0 where
  pub of : new.line.of ≡ old.line.of
  pub put : new.line.items ++ feed_left new ≡ old.line.items ++ feed_left old

-- ---- rounds

abbrev pub number_of : Option Round → Option ℕ
number_of None = None
number_of (Some r) = Some r.number

abbrev pub next_round_of : Feed → Option ℕ
next_round_of f = number_of (slice_get f.rounds.items 0)

abbrev pub rounds_in : {D : Type 0} → List (Worker D) → ℕ
rounds_in workers = length (flat_map (λ worker. worker.feed.rounds.items) workers)

pub record HasSent {D : Type 0} (old new : Worker D) : Type 0 where
  pub helper : new.helper ≡ old.helper
  pub fed : HaveFed old.feed new.feed
