-- The sorted entries have the bytes of the extents.
use Rattle.nc_classic_c.proofs.Words.{List, subst, Owned, HaveSame, ranges, extents, spans, arith, nat_tests}
use Rattle.nc_classic_c.proofs.CoverLaws.{cover_bytes, entries_low}
use Rattle.nc_classic_c.proofs.covers.cover_of.Goals as goal
use Rattle.overlay_laws.proofs.CoverLaws.{cover_ends}

pub cover-requires-clause-ends : goal.cover-requires-clause-ends
cover-requires-clause-ends c = grind (arith, nat_tests, entries_low, c.as_slice.ensures.value)

pub returns-clause-ends : goal.returns-clause-ends
returns-clause-ends c =
    cover_ends c.in_ok-whole.whole c.in_ok-list.list.items c.in_ok-whole.ensures.apart
    (subst (λ (os : List Owned). HaveSame (spans c.in_ok-whole.whole) (ranges os)) c.as_slice.ensures.value c.in_ok-whole.ensures.bytes)
    (entries_low c.args.asked.now c.in_ok-list.list.items c.requires c.in_ok-list.ensures.entries)

pub returns-clause-bytes : goal.returns-clause-bytes
returns-clause-bytes c = grind (arith, nat_tests, cover_bytes, c.as_slice.ensures.value, c.in_ok-whole.ensures.bytes, c.in_ok-list.ensures.entries)
