-- Parts that are handed to helpers one after another, each the next one, up to the first that is left. (own)
--     IsNext domains shares next         the next aggregator has the next domain; there is none once a part was left
--     domain_in next                     its domain
--     helped handed                      the helper that was handed a part, as a list
--     left_over handed                   the part that was left, as a list
--     IsGiven Fresh part share ..        a fresh helper was handed a part, over the domain of the next aggregator
--     HasAdded handed old new            the helper is behind the others now, or the part behind those that were left
--     AreHanded Fresh part share ..      these parts, in order, are those of helpers over the first domains, and those that were left
--     AreFirst parts served              what came back are the first parts, and the rest are those behind them, for which there is room
use Rattle.std.specs.Prelude.{◌≡◌, ◌≤◌, List, [], ◌∷◌, ◌++◌, drop, length, map, take, slice_get, vec_capacity, Option, None, Some, Result, Ok, Err}
use Rattle.std.specs.Option.{ForSome}
use Rattle.nc_base.specs.declared.plan.Extent.{Extent}
use Rattle.overlay_laws.specs.Entries.{In}
use Rattle.exchange_crew.specs.declared.plan.Aggregator.{Aggregator}
use Rattle.exchange_crew.specs.declared.shares.Served.{Served}
use Rattle.exchange_crew.specs.declared.shares.Shares.{Shares}

pub record IsNext {W D : Type 0} (domains : List Extent) (shares : Shares W D) (next : Option Aggregator) : Type 0 where
  pub none_left : ForSome next (λ a. shares.rest.items ≡ [])
  pub domain : ForSome next (λ a. slice_get domains (length shares.workers.items) ≡ Some a.domain)

abbrev pub domain_in : Option Aggregator → Option Extent
domain_in (Some a) = Some a.domain
domain_in None = None

pub record IsGiven {W D : Type 0} (Fresh : W → Type 0) (part : W → D) (share : W → Extent) (next : Option Aggregator) (own : D) (worker : W) : Type 0 where
  pub fresh : Fresh worker
  pub of_part : part worker ≡ own
  pub of_domain : domain_in next ≡ Some (share worker)

abbrev pub helped : {W D : Type 0} → Result W D → List W
helped (Ok worker) = worker ∷ []
helped (Err part) = []

abbrev pub left_over : {W D : Type 0} → Result W D → List D
left_over (Ok worker) = []
left_over (Err part) = part ∷ []

pub record HasAdded {W D : Type 0} (handed : Result W D) (old new : Shares W D) : Type 0 where
  pub workers : new.workers.items ≡ old.workers.items ++ helped handed
  pub rest : new.rest.items ≡ old.rest.items ++ left_over handed
  pub workers_room : vec_capacity new.workers ≡ vec_capacity old.workers
  pub rest_room : vec_capacity new.rest ≡ vec_capacity old.rest
  pub back : new.back ≡ old.back

pub record AreHanded {W D : Type 0} (Fresh : W → Type 0) (part : W → D) (share : W → Extent) (domains : List Extent) (parts : List D) (shares : Shares W D) : Type 0 where
  pub of_parts : map part shares.workers.items ++ shares.rest.items ≡ parts
  pub of_domains : map share shares.workers.items ≡ take (length shares.workers.items) domains
  pub workers : (worker : W) → In shares.workers.items worker → Fresh worker

pub record AreFirst {D : Type 0} (parts : List D) (served : Served D) : Type 0 where
  pub rest : served.rest.items ≡ drop (length served.back.items) parts
  pub few : length served.back.items ≤ length parts
  pub room : length parts ≤ vec_capacity served.back
