use Rattle.std.proofs.Common.{◌≡◌, ℕ, ◌-◌, ◌<◌, Bool, cond, Option, List, length, take, drop, nat_lt, sym, ap, ◌∙◌, arith, rules, tests}
use Rattle.std.proofs.lemmas.List.{take_all, length-drop}
use Rattle.std.proofs.lemmas.Bool.{cond-true}
use Rattle.document.specs.Bytes.{before, trim}
use Rattle.document.specs.Attributes.{Said, said, name_of, unquoted, with_value, with_named, with_short, with_item}
use Rattle.document.specs.declared.attributes.Name.{Name}
use Rattle.document.proofs.attributes.Attributes.add_item.Goals as goal

-- an item with a `=`, by what stands on its two sides
named : (s : Said) (item front more : List ℕ) (first : Bool) (n : ℕ) → n ≡ before 61 item → front ≡ take n item → more ≡ drop n item → 0 < length more
    → with_item s item first ≡ with_named s (name_of (trim front)) (unquoted (trim (take (length more - 1) (drop 1 more))))
named s item front more first n e f m some =
    let size = before 61 item in
    let other = cond first (with_short s item) s in
    let rest : drop size item ≡ more = sym (m ∙ ap (λ (k : ℕ). drop k item) e) in
    let name : take size item ≡ front = sym (f ∙ ap (λ (k : ℕ). take k item) e) in
    let value : drop 1 more ≡ take (length more - 1) (drop 1 more) = sym (take_all (length more - 1) (drop 1 more) (simp length-drop (omega arith))) in
    ap (λ (l : List ℕ). cond (nat_lt 0 (length l)) (with_named s (name_of (trim (take size item))) (unquoted (trim (drop 1 l)))) other) rest
    ∙ cond-true (nat_lt 0 (length more)) _ _ (search (rules, tests))
    ∙ ap (λ (l : List ℕ). with_named s (name_of (trim l)) (unquoted (trim (drop 1 more)))) name
    ∙ ap (λ (l : List ℕ). with_named s (name_of (trim front)) (unquoted (trim l))) value

pub returns-in-Some : goal.returns-in-Some
returns-in-Some c =
    let s = said c.args.self.now in
    let e = named s c.args.item.now c.split_at.result.0.now c.split_at.result.1.now c.args.first
    c.find.result c.find.ensures.value c.split_at.ensures.front c.split_at.ensures.back (omega arith) in
    c.with_value.ensures
    ∙ ap (with_value s c.in-Some.name) (c.unquoted.ensures ∙ ap unquoted c.trim-in-Some.ensures)
    ∙ ap (λ (o : Option Name). with_named s o (unquoted (trim (take (length c.split_at.result.1.now - 1) (drop 1 c.split_at.result.1.now)))))
    (c.in-Some.ensures ∙ ap name_of c.trim.ensures)
    ∙ sym e
