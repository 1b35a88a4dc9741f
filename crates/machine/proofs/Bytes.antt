-- The bytes of a write call, copied one after the other.
use Rattle.std.proofs.Common.{◌≡◌, sym, ap, ◌∙◌, List, [], ◌∷◌, ◌++◌, ℕ, zero, suc, ◌+◌, ◌<◌, add-one, arith, length, take, set, take-suc-set}
use Rattle.rows.specs.Rows.{Row}
use Rattle.machine.specs.Writes.{byte_at, bytes_from}

-- one byte more is the next one, put last
one_more : (n address : ℕ) (r : Row) → bytes_from (suc n) address r ≡ bytes_from n address r ++ (byte_at r (address + n) ∷ [])
unfolding bytes_from
one_more zero address r = ap (λ (a : ℕ). byte_at r a ∷ []) (omega arith)
one_more (suc n) address r =
    ap (λ (l : List ℕ). byte_at r address ∷ l)
    (one_more n (address + 1) r ∙ ap (λ (a : ℕ). bytes_from n (address + 1) r ++ (byte_at r a ∷ [])) (omega arith))

-- k bytes are copied, and then the next one
pub bytes_on : (r : Row) (address : ℕ) (output : List ℕ) (k byte : ℕ) → k < length output → take k output ≡ bytes_from k address r →
    byte ≡ byte_at r (address + k) → take (k + 1) (set output k byte) ≡ bytes_from (k + 1) address r
bytes_on r address output k byte more copied next =
    ap (λ (i : ℕ). take i (set output k byte)) (add-one k)
    ∙ take-suc-set output k byte more
    ∙ ap (λ (l : List ℕ). l ++ (byte ∷ [])) copied
    ∙ ap (λ (b : ℕ). bytes_from k address r ++ (b ∷ [])) next
    ∙ sym (one_more k address r)
    ∙ ap (λ (i : ℕ). bytes_from i address r) (sym (add-one k))
