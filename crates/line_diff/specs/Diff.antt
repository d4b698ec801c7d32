-- The difference of two texts by lines, as `diff -u` writes it and `patch` reads it.
use Rattle.std.specs.Prelude.{◌≡◌, ◌≢◌, ◌==◌, ℕ, ◌+◌, ◌-◌, ◌<◌, ◌≤◌, Bool, true, false, IsTrue, List, [], ◌∷◌, ◌++◌, map, length, filter, take, IfSome, IsSomeAnd, slice_get, slice_index, slice_range, codes, decimal, nat_eq, ◌⊎◌, if◌then◌else◌}
use Rattle.std.specs.List.{concat, flat_map, ends_with, list_any}
use Rattle.line_diff.specs.declared.script.Kind.{Kind}
use Rattle.line_diff.specs.declared.script.Kind.TheVariants.{Kept, Removed, Added}

abbrev pub Text : Type 0
Text = List ℕ

-- What a line is: it ends at its first line feed.
abbrev pub IsLine : Text → Type 0
IsLine line = (0 < length line) × ((k : ℕ) → k + 1 < length line → slice_index line k ≢ 10)

-- These are the lines of the text: all but the last end by a line feed.
pub record AreLines (text : Text) (lines : List Text) : Type 0 where
  pub joined : concat lines ≡ text
  pub each : (k : ℕ) → IfSome (slice_get lines k) IsLine
  pub ended : (k : ℕ) → k + 1 < length lines
      → IfSome (slice_get lines k) (λ line. slice_index line (length line - 1) ≡ 10)

-- A line with what becomes of it.
abbrev pub Line : Type 0
Line = Kind × Text

abbrev pub is_kept : Line → Bool
is_kept (Kept, _) = true
is_kept (Removed, _) = false
is_kept (Added, _) = false

abbrev pub is_old : Line → Bool
is_old (Kept, _) = true
is_old (Removed, _) = true
is_old (Added, _) = false

abbrev pub is_new : Line → Bool
is_new (Kept, _) = true
is_new (Removed, _) = false
is_new (Added, _) = true

abbrev pub old_lines : List Line → List Text
old_lines script = map (λ line. line.1) (filter is_old script)

abbrev pub new_lines : List Line → List Text
new_lines script = map (λ line. line.1) (filter is_new script)

-- A line of the script is a change: it is removed or added.
abbrev pub IsChange : List Line → ℕ → Type 0
IsChange script at = IsSomeAnd (slice_get script at) (λ line. is_kept line ≡ false)

-- A line of the script is shown if a change is at most three lines away.
abbrev pub IsShown : List Line → ℕ → Type 0
IsShown script at =
    (at < length script) × ((change : ℕ) × IsChange script change × (change ≤ at + 3) × (at ≤ change + 3))

-- Where a hunk begins and ends in the script.
pub record Hunk : Type 0 where
  pub from : ℕ
  pub to : ℕ

-- The hunk has a change, all its lines are shown, and those at its sides are not.
pub record IsHunk (script : List Line) (hunk : Hunk) : Type 0 where
  pub changed : (at : ℕ) × (hunk.from ≤ at) × (at < hunk.to) × IsChange script at
  pub shown : (at : ℕ) → hunk.from ≤ at → at < hunk.to → IsShown script at
  pub ended : IsShown script hunk.to → ⊥

-- The hunks have all lines that are shown from this place on.
abbrev pub AreHunks : List Line → ℕ → List Hunk → Type 0
AreHunks script from [] = (at : ℕ) → from ≤ at → IsShown script at → ⊥
AreHunks script from (hunk ∷ hunks) =
    (from ≤ hunk.from) × ((at : ℕ) → from ≤ at → at < hunk.from → IsShown script at → ⊥)
    × IsHunk script hunk × AreHunks script hunk.to hunks

-- The number of the first of these lines, and how many they are. With none, it is the number of the line before.
abbrev pub range : ℕ → ℕ → Text
range before count =
    decimal (if count == 0 then before else before + 1) ++ (codes "," ++ decimal count)

abbrev pub mark : Kind → Text
mark Kept = codes " "
mark Removed = codes "-"
mark Added = codes "+"

abbrev pub line_text : Line → Text
line_text line =
    mark line.0 ++ (line.1
    ++ (if ends_with nat_eq line.1 (codes "\n") then [] else codes "\n\\ No newline at end of file\n"))

-- A hunk of these lines, which stands after so many lines of the old and of the new text.
abbrev pub hunk_after : ℕ → ℕ → List Line → Text
hunk_after olds news lines =
    codes "@@ -" ++ (range olds (length (old_lines lines))
    ++ (codes " +" ++ (range news (length (new_lines lines))
    ++ (codes " @@\n" ++ flat_map line_text lines))))

abbrev pub hunk_text : List Line → Hunk → Text
hunk_text script hunk =
    let before = take hunk.from script in
    hunk_after (length (old_lines before)) (length (new_lines before)) (slice_range script hunk.from hunk.to)

-- behind a name with a space stands a tab, or `patch` ends the name at the space
abbrev pub end_of_name : Text → Text
end_of_name name = if list_any (λ b. b == 32) name then codes "\t" else []

abbrev pub name_text : Text → Text
name_text name = name ++ end_of_name name

abbrev pub heading : Text → Text
heading name = codes "--- " ++ (name_text name ++ (codes "\n+++ " ++ (name_text name ++ codes "\n")))

-- The text has the hunks of some script that makes the new text of the old one.
pub record IsUnified (name old new text : Text) : Type 0 where
  pub script : List Line
  pub olds : AreLines old (old_lines script)
  pub news : AreLines new (new_lines script)
  pub hunks : List Hunk
  pub whole : AreHunks script 0 hunks
  pub is : text ≡ heading name ++ flat_map (hunk_text script) hunks

-- The unified diff of two texts under a name, which is empty where they are equal.
abbrev pub IsDiff : Text → Text → Text → Text → Type 0
IsDiff name old new text = ((old ≡ new) × (text ≡ [])) ⊎ ((old ≢ new) × IsUnified name old new text)
