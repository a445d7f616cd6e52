-- What is told of a disk after one change more, and what is left to be done.
use Rattle.redef_mover.proofs.Words.{◌≡◌, ◌∙◌, ap, Option, Some, None, Result, Ok, Err, is_ok, if◌then◌else◌, IfSome, OnOk, after}

-- ---- what holds of bytes that are told

pub when_ok : {T E A : Type 0} (r : Result T E) (x a b : A) → x ≡ (if is_ok r then a else b) → OnOk r (x ≡ a)
when_ok (Ok y) x a b h = h
when_ok (Err e) x a b h = tt

-- ---- bytes

pub told_more : {A : Type 0} {P : A → Type 0} (held mid now : Option A) (f g h : A → A) → IfSome held P → ((x : A) → P x → g (f x) ≡ h x)
    → mid ≡ after f held → now ≡ after g mid → now ≡ after h held
told_more None mid now f g h p same e k = k ∙ ap (λ m. after g m) e
told_more (Some x) mid now f g h p same e k = k ∙ ap (λ m. after g m) e ∙ ap Some (same x p)

pub told_end : {A : Type 0} {P : A → Type 0} (held now : Option A) (f h : A → A) → IfSome held P → ((x : A) → P x → f x ≡ h x)
    → now ≡ after f held → now ≡ after h held
told_end None now f h p same e = e
told_end (Some x) now f h p same e = e ∙ ap Some (same x p)
