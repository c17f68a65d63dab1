-- The lines of the auditors up to a place, and from it on.
use Rattle.std.proofs.Common.{◌≡◌, ℕ, ◌+◌, ◌<◌, suc, cond, eqb, List, [], ◌∷◌, ◌++◌, filter, get_or, length, map, take, drop, sym, ap, ◌∙◌, append_assoc}
use Rattle.std.proofs.Math.Seq.{split_at}
use Rattle.std.proofs.lemmas.List.{map-append, take_more}
use Rattle.std.proofs.lemmas.List.Elements.{filter-append}
use Rattle.fj_audit.specs.Account.{Account, Remains}
use Rattle.fj_audit.specs.Handing.{remains}
use Rattle.fj_session.proofs.Pieces.{together-append}
use Rattle.fj_session.specs.Lines.{auditor_line, auditor_lines}
use Rattle.fj_shell.specs.Shell.{together}

lines-append : (a b : List Account) → auditor_lines (a ++ b) ≡ auditor_lines a ++ auditor_lines b
lines-append a b = ap (map auditor_line) (filter-append remains a b) ∙ map-append auditor_line (filter remains a) (filter remains b)

-- One that remains has a line.
lines_remaining : (a : Account) (rest : List Account) → Remains a → auditor_lines (a ∷ rest) ≡ auditor_line a ∷ auditor_lines rest
lines_remaining a rest still = ap (λ n. map auditor_line (cond (eqb n 0) (a ∷ filter remains rest) (filter remains rest))) still

pub lines_one : (a : Account) → Remains a → together (auditor_lines (a ∷ [])) ≡ auditor_line a ++ []
lines_one a still = ap together (lines_remaining a [] still)

-- Pieces before a list, around one of it.
pub pieces_around : (a b : List (List ℕ)) (x : List ℕ) (c : List (List ℕ)) → a ++ (b ++ x ∷ c) ≡ ((a ++ b) ++ x ∷ []) ++ c
pieces_around a b x c = sym (append_assoc a b (x ∷ c)) ∙ sym (append_assoc (a ++ b) (x ∷ []) c)

-- The lines behind some texts, around one of them.
pub lines_behind : {X : Type 0} (f : X → Account) (xs ys : List X) (texts whole : List (List ℕ)) (next : List ℕ) (rest : List (List ℕ)) → ys ≡ xs
    → auditor_lines (map f ys) ≡ whole ++ next ∷ rest → texts ++ auditor_lines (map f xs) ≡ ((texts ++ whole) ++ next ∷ []) ++ rest
lines_behind f xs ys texts whole next rest same around =
    ap (λ zs. texts ++ auditor_lines (map f zs)) (sym same) ∙ ap (λ lines. texts ++ lines) around ∙ pieces_around texts whole next rest

module _ {X : Type 0} (f : X → Account) (xs : List X) (i : ℕ) (x : X) (within : i < length xs) (at : x ≡ get_or xs i x) where
  -- The lines up to the next place.
  pub lines_next : together (auditor_lines (map f (take (i + 1) xs))) ≡ together (auditor_lines (map f (take i xs))) ++ together (auditor_lines (f x ∷ []))
  lines_next =
      ap (λ ys. together (auditor_lines (map f ys))) (take_more xs i x within ∙ ap (λ y. take i xs ++ y ∷ []) (sym at))
      ∙ ap (λ accounts. together (auditor_lines accounts)) (map-append f (take i xs) (x ∷ []))
      ∙ ap together (lines-append (map f (take i xs)) (f x ∷ []))
      ∙ together-append (auditor_lines (map f (take i xs))) (auditor_lines (f x ∷ []))

  -- All lines, around that of one that remains.
  pub lines_around : Remains (f x) → auditor_lines (map f xs) ≡ auditor_lines (map f (take i xs)) ++ auditor_line (f x) ∷ auditor_lines (map f (drop (suc i) xs))
  lines_around still =
      ap (λ ys. auditor_lines (map f ys)) (split_at xs i x within ∙ ap (λ y. take i xs ++ y ∷ drop (suc i) xs) (sym at))
      ∙ ap auditor_lines (map-append f (take i xs) (x ∷ drop (suc i) xs))
      ∙ lines-append (map f (take i xs)) (f x ∷ map f (drop (suc i) xs))
      ∙ ap (λ lines. auditor_lines (map f (take i xs)) ++ lines) (lines_remaining (f x) (map f (drop (suc i) xs)) still)
