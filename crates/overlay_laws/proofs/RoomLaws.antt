-- Where every covered byte lies below n, so does every cell of the puts and of their entries.
use Rattle.overlay_laws.proofs.Words.{ℕ, ◌+◌, ◌-◌, ◌<◌, ◌≤◌, List, [], ◌∷◌, drop, Option, Some, None, arith, flat_map, slice_get, range_with_len, take_at_most, size_pos, Header, Var, Post, Owned, size_of, cells, places, Puts, bytes_of, bytes_of_some, covered, Setting, IsWithin, cells_of_some, cells_of, cells_of_puts, Source, cell_of, IsGathered, In, HaveSame, HasRoom, nat_tests}
use Rattle.overlay_laws.proofs.HullLaws.{in_left, in_right, in_range, in_flat}
use Rattle.overlay_laws.proofs.WindowLaws.{append_within}
use Rattle.overlay_laws.proofs.EntryLaws.{within_each}
use Rattle.overlay_laws.proofs.HolderLaws.{to_put}

cells_room : (size : ℕ) (ps bytes : List ℕ) (n : ℕ) → 1 ≤ size → ((x : ℕ) → In (flat_map (λ p. range_with_len p size) ps) x → x < n) → IsWithin (cells size ps bytes) n
cells_room size [] bytes n h below = tt
cells_room size (p ∷ ps) bytes n h below =
    grind (arith, nat_tests, below (p + (size - 1)), below, in_left (range_with_len p size) (flat_map (λ q. range_with_len q size) ps), in_range p size (p + (size - 1)), take_at_most size bytes, cells_room size ps (drop size bytes) n h, in_right (range_with_len p size), range_with_len, flat_map)

post_room : (header : Header) (v : Option Var) (post : Post) (n : ℕ) → ((x : ℕ) → In (bytes_of_some header v post) x → x < n) → IsWithin (cells_of_some header v post) n
post_room header None post n below = tt
post_room header (Some v) post n below = cells_room (size_of v.kind) (places header v post.region) post.bytes n (size_pos v.kind) below

pub puts_room : (header : Header) (puts : Puts) (n : ℕ) → ((x : ℕ) → In (covered header puts) x → x < n) → IsWithin (cells_of_puts header puts) n
puts_room header [] n below = tt
puts_room header (p ∷ puts) n below =
    append_within (cells_of header p.1) _ n (post_room header (slice_get header.vars p.1.var) p.1 n (λ x k. below x (in_left (bytes_of header p.1) _ x k)))
    (puts_room header puts n (λ x k. below x (in_right (bytes_of header p.1) _ x k)))

-- the length that a step needs is one past the last covered byte
pub has_room : (s : Setting) (source : Source) (puts : Puts) (ess : List (List Owned)) (list : List Owned) (n : ℕ) → 1 ≤ n
    → IsGathered s.header source puts ess → HaveSame (flat_map (λ os. os) ess) list → ((o : Owned) → In list o → 1 ≤ o.extent.len)
    → ((x : ℕ) → In (covered s.header puts) x → x < n) → HasRoom s source puts list n
has_room s source puts ess list n one g same some below =
    let entries = within_each (λ o. cell_of source o) list n (λ o k.
    grind (arith, nat_tests, to_put s.header source puts ess o (o.extent.at + (o.extent.len - 1)) g (same.1 o k), in_range o.extent.at o.extent.len (o.extent.at + (o.extent.len - 1)), in_flat (λ q. bytes_of s.header q.1) puts, take_at_most)) in
    (one, puts_room s.header puts n below, entries, below)
