-- The domains of a collective step, as C asks for them. (own)
--     is_asked lo hi aggregators unit number     the numbers are within their limits
--     IsDomain lo hi aggregators unit number e   e is that domain: it goes from its border to the next one's
--     IsDomainRefusal                            why there is none
use Rattle.std.specs.Prelude.{◌≡◌, ℕ, ◌+◌, ◌^◌, Bool, false, nat_le, nat_lt, ◌&&◌}
use Rattle.nc_base.specs.declared.answer.Code.TheVariants as code
use Rattle.serial_spec.specs.Limits.{file_limit}
use Rattle.file_domains.specs.Domains.{border}
use Rattle.nc_classic_c.specs.declared.answers.Refusal.{Refusal}
use Rattle.nc_classic_c.specs.declared.answers.Refusal.TheVariants as refusal
use Rattle.nc_classic_c.specs.declared.extents.NcvExtent.{NcvExtent}

abbrev pub is_asked : ℕ → ℕ → ℕ → ℕ → ℕ → Bool
is_asked lo hi aggregators unit number =
    nat_le lo hi && nat_lt hi file_limit && nat_lt number aggregators && nat_le aggregators 64 && nat_le 1 unit && nat_le unit (2 ^ 25)

pub record IsDomain (lo hi aggregators unit number : ℕ) (e : NcvExtent) : Type 0 where
  pub begin : e.at ≡ border lo hi aggregators unit number
  pub end : e.at + e.len ≡ border lo hi aggregators unit (number + 1)

abbrev pub IsDomainRefusal : ℕ → ℕ → ℕ → ℕ → ℕ → Refusal → Type 0
IsDomainRefusal lo hi aggregators unit number r = (r ≡ refusal.Asked code.EInvalRequest) × (is_asked lo hi aggregators unit number ≡ false)
