-- Worked examples of the order of lines, and of offsets in range and out of it.
use Rattle.std.specs.Prelude.{◌≡◌, refl, ℕ, ◌+◌, ◌/◌, ◌<◌, pos, false, true, List, [], ◌∷◌, ◌++◌, codes, map, flat_map, take, drop}
use Rattle.std.proofs.Common.{lit<, ap, arith, inl, inr}
use Rattle.toml_edit_model.specs.Scalars.{zulu, shift}
use Rattle.toml_edit_model.specs.Spelling.{Sign, plus, minus, unsigned, sign_text, clock_text}
use Rattle.toml_edit_model.specs.Syntax.{Statement, Document}
use Rattle.toml_edit_model.specs.Paths.{at_key, Path, Mention, Source, Placed, Context, placed, source_of, mentions_of, start_context}
use Rattle.toml_edit_model.specs.Paths.{context_after}
use Rattle.toml_edit_model.specs.Kept.{rank}
use Rattle.toml_edit_model.specs.Normal.{ordered}
use Rattle.toml_edit_model.specs.examples.Parts.{line, head, document, a, b, c, x, y, one_value, two_value, three_value}
use Rattle.toml_edit_model.specs.examples.Tokens.{plus_is_a_sign}
use Rattle.toml_edit_laws.specs.InOrder.{IsRankedBefore, GoesBefore, mentions_in}
use Rattle.toml_edit_laws.specs.Offsets.{SpellsRealOffset}

-- ---- lines

-- `a.x = 1`, `b = 2`, `a.y = 3`, and a table `c` with a line
abbrev first_line : Statement
first_line = line (a ∷ x ∷ []) one_value

abbrev second_line : Statement
second_line = line (b ∷ []) two_value

abbrev third_line : Statement
third_line = line (a ∷ y ∷ []) three_value

abbrev three_lines : Document
three_lines =
    document (first_line ∷ second_line ∷ third_line ∷ head false (c ∷ []) ∷ second_line ∷ [])

abbrev mss : List (List (Mention Source))
mss = mentions_in three_lines

-- the mentions of the line at this place
abbrev mentions_at : ℕ → List (Mention Source)
mentions_at n = flat_map (λ m. m) (take 1 (drop n mss))

abbrev statement_of : Placed → Statement
statement_of s = s.source.statement

-- the third line goes before the second
lines_in_order : map statement_of (ordered mss (placed three_lines))
    ≡ first_line ∷ third_line ∷ second_line ∷ head false (c ∷ []) ∷ second_line ∷ []
lines_in_order = refl

abbrev path_a : Path
path_a = at_key (codes "a") ∷ []

abbrev path_a_y : Path
path_a_y = at_key (codes "a") ∷ at_key (codes "y") ∷ []

abbrev path_b : Path
path_b = at_key (codes "b") ∷ []

third_before_second : IsRankedBefore (rank mss) (mentions_at 2) (mentions_at 1)
third_before_second =
    record {
      shared = [];
      path = path_a;
      other = path_b;
      behind_path = path_a_y ∷ [];
      behind_other = [];
      earlier_is = refl;
      later_is = refl;
      less = lit< tt;
    }

second_not_before_third : IsRankedBefore (rank mss) (mentions_at 1) (mentions_at 2) → ⊥
second_not_before_third r =
    by_shared r.shared r.path r.other r.behind_path r.behind_other r.earlier_is r.later_is r.less
  where
    by_shared : (s : List Path) (p o : Path) (ps os : List Path) → path_b ∷ [] ≡ s ++ (p ∷ ps)
        → path_a ∷ path_a_y ∷ [] ≡ s ++ (o ∷ os) → rank mss p < rank mss o → ⊥
    by_shared [] p o ps os e f h =
        let one : 1 ≡ rank mss p = (let same : path_b ≡ p = cc in ap (rank mss) same) in
        let none : 0 ≡ rank mss o = (let same : path_a ≡ o = cc in ap (rank mss) same) in
        omega arith
    by_shared (q ∷ []) p o ps os e f h = absurd cc
    by_shared (q ∷ t ∷ s) p o ps os e f h = absurd cc

-- a statement of `c` goes behind its header, and not before it
abbrev placed_in : Context → Statement → Placed
placed_in context s = record { source = source_of context s; mentions = mentions_of context s }

abbrev header_of_c : Placed
header_of_c = placed_in (start_context three_lines) (head false (c ∷ []))

abbrev line_of_c : Placed
line_of_c = placed_in (context_after (start_context three_lines) (head false (c ∷ []))) second_line

header_first : GoesBefore (rank mss) header_of_c line_of_c
header_first = inr (refl, refl, λ e. absurd cc)

line_not_first : GoesBefore (rank mss) line_of_c header_of_c → ⊥
line_not_first (inl less) = omega (arith, less)
line_not_first (inr (same, line_is, ranked)) = absurd (let f : false ≡ true = line_is in cc)

-- ---- offsets

hour_and_half : SpellsRealOffset (shift (pos 90)) (codes "+01:30")
hour_and_half = (plus, 1, 30, plus_is_a_sign, lit< tt, lit< tt, refl, refl)

small_letter : SpellsRealOffset zulu (codes "z")
small_letter = inr refl

-- 60 minutes are an hour
sixty_minutes : SpellsRealOffset (shift (pos 60)) (codes "+00:60") → ⊥
sixty_minutes (s, hours, minutes, signed, day, hour, value, text) = by_sign s text
  where
    by_sign : (r : Sign) → codes "+00:60" ≡ sign_text r ++ clock_text hours minutes → ⊥
    by_sign plus e = (let six : 0x36 ≡ 0x30 + minutes / 10 = cc in omega arith)
    by_sign minus e = (let sign : ◌≡◌ {A = ℕ} 0x2B 0x2D = cc in omega arith)
    by_sign unsigned e = (let first : 0x2B ≡ 0x30 + hours / 10 = cc in omega arith)
