-- What is left behind skipped blanks is a part of what was left.
-- Assumes nothing.
use Rattle.std.specs.Prelude.{◌≤◌, Bool, true, false, cond, List, [], ◌∷◌}
use Rattle.std.proofs.Common.{arith}
use Rattle.std.specs.List.{AllByRecursion}
use Rattle.std.proofs.lemmas.Bool.{cond_both}
use Rattle.sheet.specs.Left.{Left}
use Rattle.cut.specs.Blanks.{is_skipped, skip}
use Rattle.cut.specs.Csv.{csv_begin}
use Rattle.cut.specs.Dsv.{dsv_begin}
use Rattle.cut.specs.Fields.{Begin}
use Rattle.starts.specs.Weight.{weight}
use Rattle.cut.specs.Separators.{quotes}

pub skip_le : (s : Bool) (ts : List Left) → weight (skip s ts) ≤ weight ts
skip_le s [] = omega arith
skip_le s (t ∷ ts) = go (skip_le s ts) (is_skipped s t)
  where
    go : weight (skip s ts) ≤ weight ts → (b : Bool) → weight (cond b (skip s ts) (t ∷ ts)) ≤ weight (t ∷ ts)
    go l true = omega arith
    go l false = omega arith

pub skip_all : (P : Left → Type 0) (s : Bool) (ts : List Left) → AllByRecursion P ts → AllByRecursion P (skip s ts)
skip_all P s [] h = h
skip_all P s (t ∷ ts) h = go (is_skipped s t) (skip_all P s ts h.1)
  where
    go : (b : Bool) → AllByRecursion P (skip s ts) → AllByRecursion P (cond b (skip s ts) (t ∷ ts))
    go true k = k
    go false k = h

-- a field begins at what is left, or behind the opening quote and blanks
csv_left : (P : List Left → Type 0) (t : Left) (ts : List Left) → P (skip false ts) → P (t ∷ ts) → P (csv_begin (t ∷ ts)).left
csv_left P t ts p q = cond_both (quotes t) _ _ (λ (b : Begin). P b.left) (λ e. p) (λ e. q)

pub csv_less : (ts : List Left) → weight (csv_begin ts).left ≤ weight ts
csv_less [] = omega arith
csv_less (t ∷ ts) = let l = skip_le false ts in csv_left (λ us. weight us ≤ weight (t ∷ ts)) t ts (omega arith) (omega arith)

pub csv_all : (P : Left → Type 0) (ts : List Left) → AllByRecursion P ts → AllByRecursion P (csv_begin ts).left
csv_all P [] h = h
csv_all P (t ∷ ts) h = csv_left (AllByRecursion P) t ts (skip_all P false ts h.1) h

-- a DSV field begins at what is left
pub dsv_less : (ts : List Left) → weight (dsv_begin ts).left ≤ weight ts
dsv_less ts = omega arith

pub dsv_all : (P : Left → Type 0) (ts : List Left) → AllByRecursion P ts → AllByRecursion P (dsv_begin ts).left
dsv_all P ts h = h
