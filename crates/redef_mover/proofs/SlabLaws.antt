-- The bytes of a file in which a slab was moved.
use Rattle.redef_mover.proofs.Words.{◌≡◌, ℕ, ◌+◌, ◌-◌, ◌<◌, ◌≤◌, List, length, arith, same_file, Slab, at, read, read_long, read_at, at-written_before, at-written_after, length-written_inside, at-written_inside, slab_moved, cases_lt, nat_tests}

-- ---- one slab

pub moved_long : (file : List ℕ) (s : Slab) → s.to + s.len ≤ length file → length (slab_moved file s) ≡ length file
moved_long file s h = grind (arith, nat_tests, read_long, length-written_inside, read, slab_moved)

pub moved_before : (file : List ℕ) (s : Slab) (x : ℕ) → x < s.to → at (slab_moved file s) x ≡ at file x
moved_before file s x h = at-written_before file (read file s.from s.len) s.to x h

pub moved_after : (file : List ℕ) (s : Slab) (x : ℕ) → s.to + s.len ≤ x → at (slab_moved file s) x ≡ at file x
moved_after file s x h = grind (arith, nat_tests, read_long, at-written_after, read, slab_moved)

pub moved_inside : (file : List ℕ) (s : Slab) (x : ℕ) → s.to ≤ x → x < s.to + s.len → at (slab_moved file s) x ≡ at file (s.from + (x - s.to))
moved_inside file s x h k = grind (arith, nat_tests, read_long, at-written_inside, read_at)

-- a slab that stays
pub moved_nowhere : (file : List ℕ) (s : Slab) → s.from ≡ s.to → s.to + s.len ≤ length file → slab_moved file s ≡ file
moved_nowhere file s e h = grind (arith, nat_tests, moved_long file s h, same_file, cases_lt, moved_before, moved_inside, moved_after)

-- ---- the upper part first, then the lower one

pub record AreParts (low high whole : Slab) : Type 0 where
  pub up : low.from ≤ low.to
  pub from : high.from ≡ low.from + low.len
  pub to : high.to ≡ low.to + low.len
  pub first : whole.from ≡ low.from
  pub place : whole.to ≡ low.to
  pub all : whole.len ≡ low.len + high.len

pub both_moved : (file : List ℕ) (low high whole : Slab) → AreParts low high whole → whole.to + whole.len ≤ length file
    → slab_moved (slab_moved file high) low ≡ slab_moved file whole
both_moved file low high whole p h = grind (arith, nat_tests, moved_long, same_file, moved_before, moved_inside, moved_after, slab_moved)
