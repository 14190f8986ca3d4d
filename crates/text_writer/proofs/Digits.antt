-- The digits of a number: how many there are, and that std's are the rules'. Assumes nothing.
use mathlib.Core.Path.{◌≡◌, sym, ap, ◌∙◌}
use mathlib.Core.List.{List, [], ◌∷◌, ◌++◌}
use Prim.Native.Nat.{ℕ, zero, suc, ◌+◌, ◌*◌, ◌/◌, ◌%◌, ◌^◌, ◌≤◌, ◌<◌}
use native.Mathlib.Decide.{dec_lt}
use native.Mathlib.Omega.{arith}
use lib.ListN.{length, length-append}
use Rattle.std.specs.declared.option.Option.{Option}
use Rattle.std.specs.declared.option.Option.TheVariants.{None, Some}
use Rattle.std.specs.Fmt.{decimal as std_decimal}
use Rattle.std.specs.Option.{IfNone, IfSome, unwrap_or}
use Rattle.std.proofs.lemmas.Fmt.{decimal_digit, decimal_step}
use Rattle.std.proofs.Math.Nat.{pow-suc}
use Rattle.rules.specs.Texts.{decimal}
use Rattle.game_texts.proofs.Decimals.{decimal-one, decimal_more}

pub one-length : (n : ℕ) → n ≤ 9 → length (decimal n) ≡ 1
one-length n h = ap length (decimal-one n (omega arith))

pub more_length : (n : ℕ) → 9 < n → length (decimal n) ≡ length (decimal (n / 10)) + 1
more_length n h = ap length (decimal_more n (omega arith)) ∙ length-append (decimal (n / 10)) ((48 + n % 10) ∷ [])

-- a number from a power of ten up to the next has one digit more than that power says
power_length : (k n : ℕ) → 10 ^ k ≤ n → n < 10 * 10 ^ k → length (decimal n) ≡ 1 + k
power_length zero n h l = one-length n (omega arith)
power_length (suc k) n h l =
    let e = pow-suc 10 k in
    let more = more_length n (omega (arith, e)) in
    omega (arith, more, power_length k (n / 10) (omega (arith, e)) (omega (arith, e)))

-- counted by the logarithm, which 0 does not have
pub count_length : (n : ℕ) (log : Option ℕ) → IfNone log (n ≡ 0) → IfSome log (λ k. 10 ^ k ≤ n)
    → IfSome log (λ k. n < 10 * 10 ^ k) → 1 + unwrap_or log 0 ≡ length (decimal n)
count_length n None z h l = omega (arith, one-length n (omega (arith, z)))
count_length n (Some k) z h l = omega (arith, power_length k n h l)

-- ---- the library writes the same digits

-- of the numbers below k
same_below : (k n : ℕ) → n < k → n < 2 ^ 64 → std_decimal n ≡ decimal n
same_below zero n l h = absurd (omega arith)
same_below (suc k) n l h = go (λ m. same_below k (n / 10) m) (dec_lt n 10)
  where
    go : (n / 10 < k → n / 10 < 2 ^ 64 → std_decimal (n / 10) ≡ decimal (n / 10)) → Dec (n < 10)
        → std_decimal n ≡ decimal n
    go ih (yes a) = decimal_digit n a ∙ sym (decimal-one n a)
    go ih (no a) =
        decimal_step n (omega (arith, a)) h
        ∙ ap (λ (ds : List ℕ). ds ++ ((48 + n % 10) ∷ [])) (ih (omega (arith, a)) (omega arith))
        ∙ sym (decimal_more n (omega (arith, a)))

pub same_digits : (n : ℕ) → n < 2 ^ 64 → std_decimal n ≡ decimal n
same_digits n h = same_below (suc n) n (omega arith) h
