-- What is known of lines that were passed over in the search for one that closes a block.
-- Assumes nothing.
use Rattle.std.proofs.Common.{◌≡◌, ℕ, ◌+◌, ◌<◌, ◌≤◌, Bool, true, false, Option, Some, None, List, [], ◌∷◌, length, sym, refl, ap, ◌∙◌, subst, arith}
use Rattle.std.specs.Fn.{CalledAt}
use Rattle.std.specs.Iterator.{Yields, YieldsThen}
use Rattle.std.specs.List.{FoldsTo}
use Rattle.std.specs.Option.{MatchOption}
use Rattle.std.specs.Str.{bytes_eq}
use Rattle.std.proofs.lemmas.Slice.Eq.{bytes_eq-Decides}
use Rattle.std.proofs.lemmas.Bool.Decides.{not_from_Decides}
use Rattle.document.specs.Lines.{line_at, next_at}
use Rattle.document.specs.Blocks.{Stands, Missing}
use Rattle.document.specs.Walks.{Reads, Advances, FindsLine, Finds}
use Rattle.document.specs.declared.lines.Line.{Line}
use Rattle.document.specs.declared.lines.Lines.{Lines}
use Rattle.document.proofs.Feeds.{next_further, missing_next}
use denote.Param.Members.{Mut}
use denote.Ref.{Bor}

-- what each value of the type keeps
pub stands_at : (s : Lines) → Stands s.text.now s.at s.before
stands_at s = record { within = s.within; few = s.few; begins = s.begins; counted = s.counted }

-- the lines from an offset on that were passed over are not the opening line
record Passed (whole opening : List ℕ) (from low : ℕ) (t : Lines) : Type 0 where
  text : t.text.now ≡ whole
  forward : from ≤ t.at
  later : low ≤ t.before
  missing : Missing whole opening from t.at

pass : (text opening : List ℕ) (from low : ℕ) (s : Lines) (l : Line) (t : Lines) → Passed text opening from low s → Reads s l t
    → (l.bytes.now ≡ opening → ⊥) → Passed text opening from low t
pass text opening from low s l t p h other =
    let inside : s.at < length text = subst (λ (xs : List ℕ). s.at < length xs) p.text h.inside in
    let at : t.at ≡ next_at text s.at = h.at ∙ ap (λ (xs : List ℕ). next_at xs s.at) p.text in
    let bytes : l.bytes.now ≡ line_at text s.at = h.bytes ∙ ap (λ (xs : List ℕ). line_at xs s.at) p.text in
    record {
      text = h.text ∙ p.text;
      forward = omega (arith, next_further text s.at inside, at, p.forward);
      later = omega (arith, h.behind, p.later);
      missing = subst (λ (n : ℕ). Missing text opening from n) (sym at) (missing_next text s.at inside opening from p.missing (λ e. other (bytes ∙ e)));
    }

stands_of : {text : List ℕ} (t : Lines) (l : Line) {u : Lines} → t.text.now ≡ text → Reads t l u → Stands text l.start l.before
stands_of {text} t l e h =
    subst (λ (n : ℕ). Stands text n l.before) (sym h.start)
    (subst (λ (n : ℕ). Stands text t.at n) (sym h.before) (subst (λ (xs : List ℕ). Stands xs t.at t.before) e (stands_at t)))

module _ (opening : List ℕ) {F : Type 0} (g : Mut F (Bor Line × Unit {0}) Bool) (f : F)
    (calls : (x : Line) (b : Bool) (q : F) → CalledAt g f x b q → (q ≡ f) × (b ≡ bytes_eq x.bytes.now opening)) where
  other : (l : Line) (q : F) → CalledAt g f l false q → l.bytes.now ≡ opening → ⊥
  other l q k = not_from_Decides _ (bytes_eq-Decides l.bytes.now opening) (sym (calls l false q k).1)

  passed : (text : List ℕ) (from low : ℕ) (xs : List Line) (s t : Lines) (p j : F) → p ≡ f → Passed text opening from low s → Yields Advances s xs t
      → FoldsTo (λ p x q. CalledAt g p x false q) p xs j → Passed text opening from low t × (j ≡ f)
  passed text from low [] s t p j i e y k = (subst (λ (u : Lines). Passed text opening from low u) y e, sym k ∙ i)
  passed text from low (x ∷ xs) s t p j i e (m, h, y) (q, k, more) =
      let called = subst (λ (p : F). CalledAt g p x false q) i k in
      passed text from low xs m t q j (calls x false q called).0 (pass text opening from low s x m e h (other x q called)) y more

  start : (s : Lines) → Passed s.text.now opening s.at s.before s
  start s = record { text = refl; forward = omega arith; later = omega arith; missing = λ k low high. absurd (omega arith) }

  closed : (s t u : Lines) (l : Line) (j : F) → Passed s.text.now opening s.at s.before t → Reads t l u → j ≡ f → (q : F) → CalledAt g j l true q
      → FindsLine s opening l u
  closed s t u l j p h i q k =
      let called = subst (λ (p : F). CalledAt g p l true q) i k in
      let same : l.bytes.now ≡ opening = (bytes_eq-Decides l.bytes.now opening).0 (sym (calls l true q called).1) in
      let bytes : l.bytes.now ≡ line_at s.text.now t.at = h.bytes ∙ ap (λ (xs : List ℕ). line_at xs t.at) p.text in
      record {
        closes = record {
          forward = omega (arith, h.start, p.forward);
          later = omega (arith, h.before, p.later);
          inside = omega (arith, h.start, h.inside, ap length p.text);
          stands = stands_of t l p.text h;
          same = ap (line_at s.text.now) h.start ∙ sym bytes ∙ same;
          first = subst (λ (n : ℕ). Missing s.text.now opening s.at n) (sym h.start) p.missing;
        };
        text = h.text ∙ p.text;
        at = h.at ∙ ap (λ (xs : List ℕ). next_at xs t.at) p.text ∙ ap (next_at s.text.now) (sym h.start);
        behind = h.behind ∙ ap (λ (n : ℕ). n + 1) (sym h.before);
      }

  pub finds : (s u : Lines) (r : Option Line) → (xs : List Line) × (j : F) × YieldsThen Advances s xs r u
      × FoldsTo (λ p x q. CalledAt g p x false q) f xs j × MatchOption r (Unit {0}) (λ x. (h : F) × CalledAt g j x true h) → Finds s opening r u
  finds s u None (xs, j, (t, y, h), k, o) =
      let p = (passed s.text.now s.at s.before xs s t f j refl (start s) y k).0 in
      let end : t.at ≡ length s.text.now = omega (arith, t.within, h.0, ap length p.text) in
      record {
        missing = subst (λ (n : ℕ). Missing s.text.now opening s.at n) end p.missing;
        text = ap (λ (v : Lines). v.text.now) h.1 ∙ p.text;
        at = ap (λ (v : Lines). v.at) h.1 ∙ end;
      }
  finds s u (Some l) (xs, j, (t, y, h), k, (q, c)) =
      let p = passed s.text.now s.at s.before xs s t f j refl (start s) y k in
      closed s t u l j p.0 h p.1 q c
