-- What a rank keeps. (own)
--     ranked a     the rank as contracts see it
--     IsKept a     what stands between its calls
use Rattle.std.specs.Prelude.{◌≡◌, true, option_map, IfSome}
use Rattle.serial_spec.specs.SoundHeaders.{is_sound}
use Rattle.serial_spec.specs.RankMachine as machine
use Rattle.rank_core.specs.Indexed.{IsIndexOf}
use Rattle.rank_core.specs.OpenOffers.{as_open}
use Rattle.rank_core.specs.Ranked.{Ranked}
use Rattle.rank_core.specs.Requests.{AreRequests, IsOpen}
use Rattle.rank_core.specs.declared.rank.Rank.TheInside.{Inside}

abbrev pub state_of : Inside → machine.Rank
state_of a = record {
  independent = a.independent;
  known = a.known;
  posted = a.queue.posted;
  attached = a.queue.attached;
  «open» = option_map as_open a.offered;
}

abbrev pub ranked : Inside → Ranked
ranked a = record { header = a.header.now; state = state_of a }

pub record IsKept (a : Inside) : Type 0 where
  pub sound : is_sound a.header.now ≡ true
  pub names : IsIndexOf a.header.now a.names.now
  pub requests : AreRequests a.header.now a.known a.queue.posted
  pub offered : IfSome a.offered (λ o. IsOpen a.header.now a.known (as_open o))
