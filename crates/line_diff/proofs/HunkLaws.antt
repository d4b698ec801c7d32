-- Changes, lines that are shown, and hunks.
use Rattle.std.proofs.Common.{◌≡◌, ◌∙◌, ap, sym, refl, subst, ℕ, zero, suc, ◌+◌, ◌-◌, ◌<◌, ◌≤◌, ◌⊎◌, inl, inr, min, List, [], ◌∷◌, ◌++◌, map, length, take, get_or, append_assoc, arith, length-append, length-take, false, nat_eq}
use Rattle.std.specs.Prelude.{codes, if◌then◌else◌}
use Rattle.std.specs.List.{ends_with, filter, flat_map, slice_range}
use Rattle.std.proofs.lemmas.Bool.{cases_lt}
use Rattle.std.proofs.lemmas.List.{flat_map_more, length-map, map-append, take_more}
use Rattle.std.proofs.lemmas.List.Sums.{length-filter, count_by-le-length}
use Rattle.line_diff.specs.Diff.{AreHunks, Hunk, IsChange, IsHunk, IsShown, Line, Text, hunk_after, hunk_text, is_new, is_old, line_text, mark, new_lines, old_lines}
use Rattle.line_diff.specs.Steps.{line_of, lines_of}
use Rattle.line_diff.specs.declared.script.Step.{Step}
use Rattle.line_diff.proofs.ScriptLaws.{new-append, old-append, range-map, take-range}

pub change-within : (s : List Line) (k : ℕ) → IsChange s k → k < length s
change-within [] k h = absurd h
change-within (x ∷ s) zero h = omega arith
change-within (x ∷ s) (suc k) h = let r = change-within s k h in omega (arith, r)

-- behind seven kept lines, or at the end of the script, no line is shown
pub ends : (script : List Step) (last place to : ℕ) → ((c : ℕ) → last < c → c < place → IsChange (lines_of script) c → ⊥)
    → (last + 8 ≤ place) ⊎ (length script ≤ place) → to ≡ min (length script) (last + 4) → IsShown (lines_of script) to → ⊥
ends script last place to none over is (within, (c, change, low, high)) =
    let all = length-map script line_of in
    let inside = change-within (lines_of script) c change in
    let after : last < c = omega arith in
    let before : c < place = elim over [ inl far ↦ omega arith | inr end ↦ omega arith ] in
    none c after before change

pub covered : (script : List Step) (first last to : ℕ) → IsChange (lines_of script) last
    → ((k : ℕ) → first ≤ k → k ≤ last → IsShown (lines_of script) k) → to ≡ min (length script) (last + 4)
    → (k : ℕ) → first ≤ k → k < to → IsShown (lines_of script) k
covered script first last to change shown is k le lt =
    let all = length-map script line_of in
    elim (cases_lt last k) [
      | inl after ↦ (omega arith, (last, change, omega arith, omega arith))
      | inr before ↦ shown k le before
    ]

-- a change that is at most eight lines after the last one
pub next-shown : (s : List Line) (first last next : ℕ) → IsChange s last → IsChange s next → last < next → next ≤ last + 7
    → ((k : ℕ) → first ≤ k → k ≤ last → IsShown s k) → (k : ℕ) → first ≤ k → k ≤ next → IsShown s k
next-shown s first last next change other after near shown k le to =
    let inside = change-within s next other in
    elim (cases_lt last k) [
      | inl behind ↦ elim (cases_lt (last + 3) k) [
        | inl far ↦ (omega arith, (next, other, omega arith, omega arith))
        | inr close ↦ (omega arith, (last, change, omega arith, omega arith))
      ]
      | inr before ↦ shown k le before
    ]

-- all from the first change to the last one is shown, and behind that there is none before this place
pub record Spans (s : List Line) (first last place : ℕ) : Type 0 where
  pub order : first ≤ last
  pub before : last < place
  pub near : place ≤ last + 8
  pub change : IsChange s last
  pub shown : (at : ℕ) → first ≤ at → at ≤ last → IsShown s at
  pub none : (at : ℕ) → last < at → at < place → IsChange s at → ⊥

pub spans-change : (s : List Line) (first last place : ℕ) → Spans s first last place → place ≤ last + 7 → IsChange s place → Spans s first place (place + 1)
spans-change s first last place b near change =
    record {
      order = omega (arith, b.order, b.before);
      before = omega arith;
      near = omega arith;
      change = change;
      shown = next-shown s first last place b.change change b.before near b.shown;
      none = λ at low high other. absurd (omega arith);
    }

pub spans-none : (s : List Line) (first last place : ℕ) → Spans s first last place → place ≤ last + 7 → (IsChange s place → ⊥) → Spans s first last (place + 1)
spans-none s first last place b near not =
    record {
      order = b.order;
      before = omega (arith, b.before);
      near = omega arith;
      change = b.change;
      shown = b.shown;
      none = λ at low high other. elim (cases_lt at place) [
        | inl before ↦ b.none at low before other
        | inr behind ↦ let same : at ≡ place = omega arith in not (subst (IsChange s) same other)
      ];
    }

-- the hunk of the next change begins after the place up to which all is written
pub after-written : (s : List Line) (at first from : ℕ) → (at ≡ 0) ⊎ (IsShown s at → ⊥) → from ≡ first - 3 → at ≤ first → IsChange s first → at ≤ from
after-written s at first from clear is le change =
    let inside = change-within s first change in
    elim clear [
      | inl start ↦ omega arith
      | inr hidden ↦ elim (cases_lt first (at + 3)) [
        | inl near ↦ absurd (hidden (omega arith, (first, change, omega arith, omega arith)))
        | inr far ↦ omega arith
      ]
    ]

pub one-hunk : (s : List Line) (at first from to : ℕ) → (at ≡ 0) ⊎ (IsShown s at → ⊥) → from ≡ first - 3 → at ≤ first → IsChange s first
    → ((c : ℕ) → at ≤ c → c < first → IsChange s c → ⊥) → first < to → to ≤ length s
    → ((k : ℕ) → first ≤ k → k < to → IsShown s k) → (IsShown s to → ⊥)
    → (more : List Hunk) → AreHunks s to more → AreHunks s at (record { from = from; to = to } ∷ more)
one-hunk s at first from to clear is le change none after within shown ended more are =
    (after-written s at first from clear is le change, gap, record { changed = (first, omega arith, after, change); shown = all; ended = ended }, are)
  where
    gap : (k : ℕ) → at ≤ k → k < from → IsShown s k → ⊥
    gap k low high (inside, (c, other, below, above)) =
        elim (cases_lt c at) [
          | inl before ↦ elim clear [
            | inl start ↦ absurd (omega arith)
            | inr hidden ↦ hidden (omega arith, (c, other, omega arith, omega arith))
          ]
          | inr behind ↦ none c behind (omega arith) other
        ]

    all : (k : ℕ) → from ≤ k → k < to → IsShown s k
    all k low high =
        elim (cases_lt k first) [
          | inl before ↦ (omega arith, (first, change, omega arith, omega arith))
          | inr behind ↦ shown k behind high
        ]

-- no change is left
pub no-more : (s : List Line) (at : ℕ) → (at ≡ 0) ⊎ (IsShown s at → ⊥) → ((c : ℕ) → at ≤ c → IsChange s c → ⊥) → AreHunks s at []
no-more s at clear none k low (inside, (c, other, below, above)) =
    elim (cases_lt c at) [
      | inl before ↦ elim clear [
        | inl start ↦ absurd (omega arith)
        | inr hidden ↦ hidden (omega arith, (c, other, omega arith, omega arith))
      ]
      | inr behind ↦ none c behind other
    ]

-- The hunks so far are those up to this place, whatever follows them, and the text has them.
pub record Written (s : List Line) (at : ℕ) (before out : Text) : Type 0 where
  pub hunks : List Hunk
  pub are : (more : List Hunk) → AreHunks s at more → AreHunks s 0 (hunks ++ more)
  pub is : out ≡ before ++ flat_map (hunk_text s) hunks

pub written-more : (s : List Line) (at : ℕ) (before out after : Text) (hunk : Hunk) → Written s at before out
    → ((more : List Hunk) → AreHunks s hunk.to more → AreHunks s at (hunk ∷ more)) → after ≡ out ++ hunk_text s hunk
    → Written s hunk.to before after
written-more s at before out after hunk w next is =
    record {
      hunks = w.hunks ++ (hunk ∷ []);
      are = λ more are. subst (AreHunks s 0) (sym (append_assoc w.hunks (hunk ∷ []) more)) (w.are (hunk ∷ more) (next more are));
      is = is ∙ (ap (λ text. text ++ hunk_text s hunk) w.is ∙ flat_map_more (hunk_text s) before w.hunks hunk);
    }

pub counted-old : (script : List Step) (a b n m : ℕ) → a ≤ b → n ≡ length (old_lines (take a (lines_of script)))
    → m ≡ length (old_lines (lines_of (slice_range script a b))) → n + m ≡ length (old_lines (take b (lines_of script)))
counted-old script a b n m le is more =
    ap (λ k. k + m) is ∙ (ap (λ k. length (old_lines (take a (lines_of script))) + k) more
    ∙ (sym (length-append (old_lines (take a (lines_of script))) (old_lines (lines_of (slice_range script a b))))
    ∙ ap length (ap (λ ls. old_lines (take a (lines_of script)) ++ old_lines ls) (range-map line_of script a b)
    ∙ (sym (old-append (take a (lines_of script)) (slice_range (lines_of script) a b)) ∙ ap old_lines (sym (take-range (lines_of script) a b le))))))

pub counted-new : (script : List Step) (a b n m : ℕ) → a ≤ b → n ≡ length (new_lines (take a (lines_of script)))
    → m ≡ length (new_lines (lines_of (slice_range script a b))) → n + m ≡ length (new_lines (take b (lines_of script)))
counted-new script a b n m le is more =
    ap (λ k. k + m) is ∙ (ap (λ k. length (new_lines (take a (lines_of script))) + k) more
    ∙ (sym (length-append (new_lines (take a (lines_of script))) (new_lines (lines_of (slice_range script a b))))
    ∙ ap length (ap (λ ls. new_lines (take a (lines_of script)) ++ new_lines ls) (range-map line_of script a b)
    ∙ (sym (new-append (take a (lines_of script)) (slice_range (lines_of script) a b)) ∙ ap new_lines (sym (take-range (lines_of script) a b le))))))

pub hunk-is : (script : List Step) (from to olds news : ℕ) → olds ≡ length (old_lines (take from (lines_of script)))
    → news ≡ length (new_lines (take from (lines_of script)))
    → hunk_after olds news (lines_of (slice_range script from to)) ≡ hunk_text (lines_of script) (record { from = from; to = to })
hunk-is script from to olds news is_old is_new =
    ap (λ n. hunk_after n news (lines_of (slice_range script from to))) is_old
    ∙ (ap (λ n. hunk_after (length (old_lines (take from (lines_of script)))) n (lines_of (slice_range script from to))) is_new
    ∙ ap (hunk_after (length (old_lines (take from (lines_of script)))) (length (new_lines (take from (lines_of script))))) (range-map line_of script from to))

pub olds-le : (lines : List Line) → length (old_lines lines) ≤ length lines
olds-le lines = omega (arith, length-map (filter is_old lines) (λ line. line.1), length-filter is_old lines, count_by-le-length is_old lines)

pub news-le : (lines : List Line) → length (new_lines lines) ≤ length lines
news-le lines = omega (arith, length-map (filter is_new lines) (λ line. line.1), length-filter is_new lines, count_by-le-length is_new lines)

pub front-olds-le : (script : List Step) (a : ℕ) → (length (old_lines (take a (lines_of script))) ≤ a) × (length (old_lines (take a (lines_of script))) ≤ length script)
front-olds-le script a =
    let n = olds-le (take a (lines_of script)) in
    let m = length-take a (lines_of script) in
    let k = length-map script line_of in (omega (arith, n, m), omega (arith, n, m, k))

pub front-news-le : (script : List Step) (a : ℕ) → (length (new_lines (take a (lines_of script))) ≤ a) × (length (new_lines (take a (lines_of script))) ≤ length script)
front-news-le script a =
    let n = news-le (take a (lines_of script)) in
    let m = length-take a (lines_of script) in
    let k = length-map script line_of in (omega (arith, n, m), omega (arith, n, m, k))

-- one more line of a hunk is written
pub line-more : (before out after : Text) (hunk : List Step) (i : ℕ) (step : Step) → i < length hunk → step ≡ get_or hunk i step
    → out ≡ before ++ flat_map line_text (lines_of (take i hunk)) → after ≡ out ++ line_text (line_of step)
    → after ≡ before ++ flat_map line_text (lines_of (take (i + 1) hunk))
line-more before out after hunk i step lt read at is =
    is ∙ (ap (λ text. text ++ line_text (line_of step)) at ∙ (flat_map_more line_text before (lines_of (take i hunk)) (line_of step)
    ∙ ap (λ ls. before ++ flat_map line_text ls) (sym (map-append line_of (take i hunk) (step ∷ []))
    ∙ ap lines_of (ap (λ x. take i hunk ++ (x ∷ [])) read ∙ sym (take_more hunk i step lt)))))

-- a line without its line feed
pub line-unended : (line : Line) (before after : Text) → ends_with nat_eq line.1 (codes "\n") ≡ false
    → after ≡ ((before ++ mark line.0) ++ line.1) ++ codes "\n\\ No newline at end of file\n" → after ≡ before ++ line_text line
line-unended line before after none is =
    is ∙ (append_assoc (before ++ mark line.0) line.1 (codes "\n\\ No newline at end of file\n")
    ∙ (append_assoc before (mark line.0) (line.1 ++ codes "\n\\ No newline at end of file\n")
    ∙ ap (λ b. before ++ (mark line.0 ++ (line.1 ++ (if b then [] else codes "\n\\ No newline at end of file\n")))) (sym none)))
