-- The puts and the gets of a step, one after another.
use Rattle.reference.proofs.Words.{get, get_post, map, append_assoc, ◌++◌, ◌*◌, take, add-one, drop-drop, written, cells, write_cells, drop_at, ◌≡◌, ℕ, ◌+◌, ◌^◌, ◌<◌, refl, List, [], ◌∷◌, length, drop, get_or, fold, max, Option, Some, None, true, arith, slice_get, IfSome, Header, Var, Post, In, put_post, Setting, header_len, is_sound, end_of, needed, needed_by, records_of, records_of_some, put, Puts, sound_end, IsAccepted, small_of, nat_tests}
use Rattle.reference.proofs.GatherLaws.{greatest_has, next_left}

-- ---- the count

pub needed_is : (header : Header) (p : ℕ × Post) (n : ℕ) → IsAccepted header p.1.var p.1.region → IfSome (slice_get header.vars p.1.var) (λ v. n ≡ records_of header v p.1.region)
    → n ≡ needed header p.1
needed_is header p n a some = grind (arith, nat_tests)

one_end : (header : Header) (post : Post) → is_sound header ≡ true → IsAccepted header post.var post.region → end_of header (header_len header) (needed header post) < 2 ^ 62
one_end header post sound a = by_var (slice_get header.vars post.var) refl
  where
    by_var : (o : Option Var) → slice_get header.vars post.var ≡ o → end_of header (header_len header) (records_of_some header o post.region) < 2 ^ 62
    by_var None e = grind (arith, nat_tests)
    by_var (Some v) e = let small = small_of header post.var v post.region e a in omega (arith, small.ends)

either : (header : Header) (a b : ℕ) → end_of header (header_len header) a < 2 ^ 62 → end_of header (header_len header) b < 2 ^ 62 → end_of header (header_len header) (max a b) < 2 ^ 62
either header a b h k = grind (arith, nat_tests)

pub ends_low : (header : Header) (puts : Puts) → is_sound header ≡ true → ((p : ℕ × Post) → In puts p → IsAccepted header p.1.var p.1.region)
    → end_of header (header_len header) (needed_by header puts) < 2 ^ 62
ends_low header puts sound all =
    greatest_has (λ n. end_of header (header_len header) n < 2 ^ 62) (λ p. needed header p.1) puts (sound_end header 0 sound (omega arith)) (either header)
    (λ p m. one_end header p.1 sound (all p m))

-- ---- the file

pub write_step : (header : Header) (puts : Puts) (i : ℕ) (p : ℕ × Post) (file now old : List ℕ) → i < length puts → p ≡ get_or puts i p → IsAccepted header p.1.var p.1.region
    → IfSome (slice_get header.vars p.1.var) (λ v. now ≡ put header v p.1.region p.1.bytes file)
    → ((s : Setting) → s.header ≡ header → fold (put_post s) file (drop i puts) ≡ fold (put_post s) old puts)
    → (s : Setting) → s.header ≡ header → fold (put_post s) now (drop (i + 1) puts) ≡ fold (put_post s) old puts
write_step header puts i p file now old h e a some so_far s same = grind (arith, nat_tests, next_left puts i p p h e, fold)

-- ---- the gets

pub got_step : (header : Header) (posts : List Post) (i : ℕ) (post : Post) (file blob : List ℕ) (got got' : List (List ℕ)) → i < length posts → post ≡ get_or posts i post
    → IsAccepted header post.var post.region → IfSome (slice_get header.vars post.var) (λ v. blob ≡ get header v post.region file) → got' ≡ got ++ blob ∷ []
    → ((s : Setting) → s.header ≡ header → got ++ map (get_post s file) (drop i posts) ≡ map (get_post s file) posts)
    → (s : Setting) → s.header ≡ header → got' ++ map (get_post s file) (drop (i + 1) posts) ≡ map (get_post s file) posts
got_step header posts i post file blob got got' h e a some f so_far s same =
    grind (arith, nat_tests, append_assoc got (blob ∷ []) (map (get_post s file) (drop (i + 1) posts)), next_left posts i post post h e)

-- ---- the elements of a put

pub put_step : (size : ℕ) (ps bytes file file' whole part : List ℕ) (k x : ℕ) → slice_get ps k ≡ Some x → part ≡ take size (drop (k * size) bytes)
    → file' ≡ written file x part → write_cells file (cells size (drop k ps) (drop (k * size) bytes)) ≡ whole
    → write_cells file' (cells size (drop (k + 1) ps) (drop ((k + 1) * size) bytes)) ≡ whole
put_step size ps bytes file file' whole part k x there p e h = grind (arith, nat_tests, add-one k, drop-drop size (k * size) bytes, drop_at ps k x there)
