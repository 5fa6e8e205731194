use Rattle.std.proofs.Common.{◌≡◌, ℕ, ◌+◌, ◌-◌, ◌<◌, ◌≤◌, true, false, List, length, get_or, take, ap, arith, rules}
use Rattle.std.proofs.lemmas.List.Sums.{suffix_len_is}
use Rattle.document.specs.Bytes.{is_blank, trim_end}
use Rattle.document.proofs.bytes.trim_end.Goals as goal

-- what is left of a text whose first n bytes end with no blank and have blanks alone behind them
trimmed : (bytes : List ℕ) (n : ℕ) → n ≤ length bytes → ((k : ℕ) → n ≤ k → k < length bytes → is_blank (get_or bytes k 0) ≡ true)
    → (0 < n → is_blank (get_or bytes (n - 1) 0) ≡ false) → take n bytes ≡ trim_end bytes
trimmed bytes n within blanks stops =
    let size = suffix_len_is is_blank bytes n 0 within blanks stops in
    ap (λ (m : ℕ). take m bytes) (omega (arith, size, within))

pub returns-in-Some : goal.returns-in-Some
returns-in-Some c =
    let inside : c.in-Some.last < length c.args.bytes.now = search rules in
    trimmed c.args.bytes.now _ (omega (arith, inside)) (λ k from within. search rules) (λ some. search rules)

pub returns-in-None : goal.returns-in-None
returns-in-None c = trimmed c.args.bytes.now 0 (omega arith) (λ k from within. search rules) (λ some. absurd (omega arith))
