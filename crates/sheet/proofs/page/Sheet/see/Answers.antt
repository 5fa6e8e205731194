use Rattle.std.proofs.Common.{◌≡◌, ℕ, ◌+◌, ◌-◌, Bool, List, ◌∷◌, take, drop, ap, ◌∙◌, arith}
use Rattle.sheet.specs.Left.{Left, left}
use Rattle.sheet.specs.View.{view}
use Rattle.sheet.proofs.Lefts.{left_more}
use Rattle.sheet.proofs.page.Sheet.see.Goals as goal

same_seen : (i o k k' : ℕ) (b : Bool) (n n' s : ℕ) (x y : List ℕ) → k ≡ k' → n ≡ n' → x ≡ y
    → ◌≡◌ {A = Left} (record { number = i; offset = o; kind = k'; replaced = b; bytes = take n' (drop s y) }) (record { number = i; offset = o; kind = k; replaced = b; bytes = take n (drop s x) })
same_seen i o k k' b n n' s x y p q r = cc

pub returns-clause-seen : goal.returns-clause-seen
returns-clause-seen c =
    let s = c.args.self.now in
    let o = c.args.place.offset in
    let told = c.in_ok-token.ensures in
    let token = c.in_ok-token.token in
    let x = c.text_of-text.ensures in
    let e = left_more (view s) c.args.place.token o token s.sound told.found c.if-place-length.false in
    let m : (token.start + token.length) - (token.start + o) ≡ token.length - o = omega arith in
    let k = c.kind_of-kind.ensures ∙ c.kind_from.ensures in
    e ∙ ap (λ (y : Left). y ∷ left (view s) (c.args.place.token + 1) 0) (same_seen _ _ _ _ _ _ _ _ _ _ k m x)
