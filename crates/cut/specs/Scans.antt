-- A scan that has come some way ends as the whole does.
-- Assumes nothing.
use Rattle.std.specs.Prelude.{◌≡◌, ℕ, ◌+◌, ◌≤◌, Bool, true, false, cond, ◌||◌, List, [], ◌∷◌, length, Some, None, Option, refl}
use Rattle.std.proofs.Common.{sym, ap, subst, ◌∙◌, arith}
use Rattle.sheet.specs.Left.{Left, left_at, behind_bytes}
use Rattle.sheet.specs.Limits.{max_tokens}
use Rattle.sheet.specs.View.{SheetView}
use Rattle.cut.specs.Blanks.{is_blank}
use Rattle.cut.specs.Field.{Field, field, closed, more, noted, front_of}
use Rattle.cut.specs.Scanned.{Few, Scanned, head_of, first_with, tail_with, is_two}
use Rattle.cut.specs.declared.machine.Close.TheVariants.{Line, Mark}
use Rattle.cut.specs.declared.machine.Role.{Role}
use Rattle.cut.specs.declared.machine.Role.TheVariants.{EndsLine, Separates, Starts, Splits, Drops, Takes, Notes}
use Rattle.cut.specs.declared.machine.State.{State}
use Rattle.cut.specs.declared.machine.State.TheVariants.{Plain}
use Rattle.cut.specs.declared.machine.Tail.{Tail}
use Rattle.cut.specs.declared.machine.Tail.TheVariants.{Nothing}
use Rattle.cut.specs.declared.scan.Found.{Found}
use Rattle.cut.specs.Tails.{kept, kept_trim, tails, tails_removed}

or_false : (b : Bool) → (b || false) ≡ b
or_false true = refl
or_false false = refl

or_assoc : (a b c : Bool) → ((a || b) || c) ≡ (a || (b || c))
or_assoc true b c = refl
or_assoc false b c = refl

-- what a token's role makes of the field
abbrev pub by_role : (State → List Left → Role) → Left → List Left → Role → Field
by_role role t ts r = elim r [
  | EndsLine ↦ closed Line ts
  | Separates ↦ closed Mark (behind_bytes 1 (t ∷ ts))
  | Starts ↦ closed Mark (t ∷ ts)
  | Splits n m ↦ more false (front_of n t) (closed Mark (behind_bytes m (t ∷ ts)))
  | Drops s' ↦ field role s' ts
  | Takes s' line ↦ more line t (field role s' ts)
  | Notes ↦ noted t (field role Plain ts)
]

-- the field where a token stands in front
pub field_at : (role : State → List Left → Role) (s : State) (xs ts : List Left) (t : Left) (r : Role) → xs ≡ t ∷ ts → r ≡ role s xs → field role s xs ≡ by_role role t ts r
field_at role s xs ts t r e h = ap (field role s) e ∙ ap (by_role role t ts) (sym (h ∙ ap (role s) e))

-- the first of those so far and those to come
abbrev pub firsts : Option ℕ → List ℕ → Option ℕ
firsts (Some x) ns = Some x
firsts None ns = head_of ns

firsts_more : (o : Option ℕ) (x : ℕ) (ns : List ℕ) → firsts (first_with o x) ns ≡ firsts o (x ∷ ns)
firsts_more (Some y) x ns = refl
firsts_more None x ns = refl

firsts_none : (o : Option ℕ) → firsts o [] ≡ o
firsts_none (Some y) = refl
firsts_none None = refl

-- a scan that has come to a field f, with last of n pieces kept, ends as the field f0 does
pub record Goes (last n : ℕ) (line : Bool) (tail : Tail) (notes : ℕ) (noted : Option ℕ) (f f0 : Field) : Type 0 where
  pub count : kept last n f.texts ≡ kept 0 0 f0.texts
  pub close : f.close ≡ f0.close
  pub left : f.left ≡ f0.left
  pub lined : (line || f.line) ≡ f0.line
  pub tailed : tails tail f.texts ≡ tails Nothing f0.texts
  pub noting : notes + length f.notes ≡ length f0.notes
  pub firstly : firsts noted f.notes ≡ head_of f0.notes
  pub unclosed : f.unclosed ≡ f0.unclosed

pub goes_start : (f : Field) → Goes 0 0 false Nothing 0 None f f
goes_start f = record { count = refl; close = refl; left = refl; lined = refl; tailed = refl; noting = omega arith; firstly = refl; unclosed = refl }

module _ (last n : ℕ) (line : Bool) (tail : Tail) (notes : ℕ) (o : Option ℕ) (f0 : Field) where
  pub goes_at : (f g : Field) → f ≡ g → Goes last n line tail notes o f f0 → Goes last n line tail notes o g f0
  goes_at f g e h = subst (λ (x : Field). Goes last n line tail notes o x f0) e h

  pub goes_take : (b : Bool) (t : Left) (f : Field) → Goes last n line tail notes o (more b t f) f0
      → Goes (cond (is_blank t) last (n + 1)) (n + 1) (line || b) (tail_with tail t.kind) notes o f f0
  goes_take b t f h = record { count = h.count; close = h.close; left = h.left; lined = or_assoc line b f.line ∙ h.lined; tailed = h.tailed; noting = h.noting; firstly = h.firstly; unclosed = h.unclosed }

  pub goes_note : (t : Left) (f : Field) → Goes last n line tail notes o (noted t f) f0 → Goes last n line tail (notes + 1) (first_with o t.number) f f0
  goes_note t f h = record { count = h.count; close = h.close; left = h.left; lined = h.lined; tailed = h.tailed; noting = let e = h.noting in omega arith; firstly = firsts_more o t.number f.notes ∙ h.firstly; unclosed = h.unclosed }

  -- a closed field: all is said
  pub goes_done : (v : SheetView) (f : Field) (r : Found) → Goes last n line tail notes o f f0 → f.texts ≡ [] → f.line ≡ false → f.notes ≡ []
      → r.finished ≡ last → r.close ≡ f.close → left_at v r.rest ≡ f.left → r.line ≡ line → r.blank ≡ is_two tail → r.notes ≡ notes → r.noted ≡ o → r.unclosed ≡ f.unclosed → Few r.noted → r.notes ≤ max_tokens → Scanned v r f0
  goes_done v f r h a b c d e g i t j m k few many = record {
    finished = d ∙ sym (ap (kept last n) a) ∙ h.count ∙ kept_trim f0.texts;
    close = e ∙ h.close;
    rest = g ∙ h.left;
    line = i ∙ sym (ap (λ (x : Bool). line || x) b ∙ or_false line) ∙ h.lined;
    blank = t ∙ ap is_two (sym (ap (tails tail) a) ∙ h.tailed) ∙ tails_removed f0.texts;
    notes = let z = h.noting in let y = ap length c in omega arith;
    noted = m ∙ sym (firsts_none o) ∙ sym (ap (firsts o) c) ∙ h.firstly;
    unclosed = k ∙ h.unclosed;
    few = few;
    many = many;
  }

-- a split Word is the last piece, and no blank
pub goes_split : (v : SheetView) (last n : ℕ) (line : Bool) (tail : Tail) (notes : ℕ) (o : Option ℕ) (f0 : Field) (k : ℕ) (t : Left) (ts : List Left) (r : Found)
    → Goes last n line tail notes o (more false (front_of k t) (closed Mark ts)) f0
    → r.finished ≡ n + 1 → r.close ≡ Mark → left_at v r.rest ≡ ts → r.line ≡ line → r.blank ≡ false → r.notes ≡ notes → r.noted ≡ o → r.unclosed ≡ false → Few r.noted → r.notes ≤ max_tokens → Scanned v r f0
goes_split v last n line tail notes o f0 k t ts r h d e g i b j m u few many =
    goes_done (n + 1) (n + 1) (line || false) Nothing notes o f0 v (closed Mark ts) r (goes_take last n line tail notes o f0 false (front_of k t) (closed Mark ts) h) refl refl refl d e g (i ∙ sym (or_false line)) b j m u few many
