-- The file of a created dataset.
use Rattle.dataset_start.proofs.Words.{◌≡◌, ℕ, ◌+◌, ◌-◌, ◌≤◌, List, [], ◌++◌, length, drop, replicate, Option, ap, ◌∙◌, arith, drop-replicate, Header, after, after-after, longer, written, header_len, end_of, written-front, nat_tests}

-- bytes at the front of zeros
pub front-of-zeros : (bytes : List ℕ) (end : ℕ) → length bytes ≤ end → written (longer [] end) 0 bytes ≡ longer bytes end
front-of-zeros bytes end long =
    let rest : 0 + length bytes ≡ length bytes = omega arith in
    written-front (longer [] end) 0 bytes
    ∙ ap (λ (n : ℕ). bytes ++ drop n (longer [] end)) rest
    ∙ ap (λ (t : List ℕ). bytes ++ t) (drop-replicate (length bytes) (end - 0) 0 ∙ ap (λ (n : ℕ). replicate n 0) plain)
  where
    plain : (end - 0) - length bytes ≡ end - length bytes
    plain = omega arith

-- emptied, grown and written
pub created : (bytes : List ℕ) (end size place : ℕ) (old emptied grown new : Option (List ℕ)) → length bytes ≤ end → size ≡ end → place ≡ 0
    → emptied ≡ after (λ _. []) old → grown ≡ after (λ file. longer file size) emptied → new ≡ after (λ file. written file place bytes) grown
    → new ≡ after (λ _. longer bytes end) old
created bytes end size place old emptied grown new long s p e g n = grind (arith, nat_tests, after-after, front-of-zeros)

-- a file ends behind its header
pub front_fits : (header : Header) (n : ℕ) → header_len header ≤ end_of header (header_len header) n
front_fits header n = omega arith
