-- Lines that are laid out one by one, where empty ones are written before it is known what follows, and
-- taken back at the end.
use Rattle.std.proofs.Common.{◌≡◌, refl, sym, ap, ◌∙◌, subst, ℕ, zero, suc, ◌≤◌, arith, Bool, true, false, List, [], ◌∷◌, ◌++◌, length, Option, Some, None, append-nil, append_assoc, length-append, string_bytes}
use Rattle.std.specs.Prelude.{◌&&◌, if◌then◌else◌, flat_map, take, unwrap_or, is_some}
use Rattle.std.specs.List.{list_all}
use Rattle.std.specs.Str.{IsUtf8, IsCharBoundary}
use Rattle.std.proofs.Math.Seq.{take-append_seam}
use Rattle.std.proofs.lemmas.Grind.{flat_map-append}
use Rattle.std.proofs.lemmas.List.Folds.{list_all-append}
use Rattle.std.proofs.lemmas.Str.{IsCharBoundary-from_take, IsUtf8-string_bytes}
use Rattle.toml_edit_model.specs.Comments.{lines}
use Rattle.toml_edit_model.specs.Text.{Text, is_empty, one}
use Rattle.toml_edit_laws.proofs.common.Tests.{and_left, and_right, and_both}
use Rattle.toml_edit_fmt_laws.specs.Laying.{is_empty_line, laid_lines, spaced, squeezed, trimmed, whole_lines}
use Rattle.toml_edit_fmt.specs.LinesView.{is_kept, laid_line, laid_of}
use Rattle.toml_edit_fmt.specs.PageView.{Gains}
use Rattle.toml_edit_fmt.specs.RulesView.{rules_of}
use Rattle.toml_edit_fmt.specs.declared.page.Page.{Page}

-- an empty line, of which there may be too many
abbrev pub is_spare : Option ℕ → Text → Bool
is_spare b l = is_some b && is_empty_line l

abbrev ending : Bool → List Text → List Text
ending is_end ls = if is_end then trimmed is_empty_line ls else ls

-- the lines from these empty ones on, after which so many more may be
abbrev still : Option ℕ → Bool → List Text → ℕ → List Text → List Text
still None is_end held left ls = held ++ ls
still (Some most) is_end held left ls = ending is_end (held ++ squeezed is_empty_line most left ls)

-- ---- empty lines

trimmed-empty : (held : List Text) → list_all is_empty_line held ≡ true → trimmed is_empty_line held ≡ []
trimmed-empty [] e = refl
trimmed-empty (l ∷ ls) e =
    ap (λ b. if b && is_empty (trimmed is_empty_line ls) then [] else l ∷ trimmed is_empty_line ls) (and_left _ _ e)
    ∙ ap (λ (k : List Text). if is_empty k then [] else l ∷ k) (trimmed-empty ls (and_right _ _ e))

not-empty : (b : Bool) (held : List Text) (l : Text) (ls : List Text) → (b && is_empty (held ++ l ∷ ls)) ≡ false
not-empty false held l ls = refl
not-empty true [] l ls = refl
not-empty true (h ∷ held) l ls = refl

trimmed-after : (held : List Text) (l : Text) (ls : List Text) → is_empty_line l ≡ false
    → trimmed is_empty_line (held ++ l ∷ ls) ≡ held ++ l ∷ trimmed is_empty_line ls
trimmed-after [] l ls e = ap (λ b. if b && is_empty (trimmed is_empty_line ls) then [] else l ∷ trimmed is_empty_line ls) e
trimmed-after (h ∷ held) l ls e =
    ap (λ (k : List Text). if is_empty_line h && is_empty k then [] else h ∷ k) (trimmed-after held l ls e)
    ∙ ap (λ b. if b then [] else h ∷ (held ++ l ∷ trimmed is_empty_line ls)) (not-empty (is_empty_line h) held l (trimmed is_empty_line ls))

ending-after : (is_end : Bool) (held : List Text) (l : Text) (ls : List Text) → is_empty_line l ≡ false
    → ending is_end (held ++ l ∷ ls) ≡ held ++ l ∷ ending is_end ls
ending-after false held l ls e = refl
ending-after true held l ls e = trimmed-after held l ls e

squeezed-other : (most left : ℕ) (l : Text) (ls : List Text) → is_empty_line l ≡ false
    → squeezed is_empty_line most left (l ∷ ls) ≡ l ∷ squeezed is_empty_line most most ls
squeezed-other most zero l ls e =
    ap (λ b. if b then squeezed is_empty_line most 0 ls else l ∷ squeezed is_empty_line most most ls) e
squeezed-other most (suc left) l ls e =
    ap (λ b. if b then l ∷ squeezed is_empty_line most left ls else l ∷ squeezed is_empty_line most most ls) e

-- ---- which lines are laid out

kept-line : (indent : Option ℕ) (l : Text) (ls : List Text) → is_kept indent l ≡ true → laid_of indent (l ∷ ls) ≡ l ∷ laid_of indent ls
kept-line None l ls e = refl
kept-line (Some depth) l ls e = ap (λ b. if b then l ∷ whole_lines ls else whole_lines ls) e

left-out : (indent : Option ℕ) (l : Text) (ls : List Text) → is_kept indent l ≡ false → laid_of indent (l ∷ ls) ≡ laid_of indent ls
left-out None l ls e = absurd cc
left-out (Some depth) l ls e = ap (λ b. if b then l ∷ whole_lines ls else whole_lines ls) e

-- ---- one more line

module _ (is_end : Bool) (held : List Text) where
  still-written : (b : Option ℕ) (left : ℕ) (l : Text) (ls : List Text) → is_spare b l ≡ false
      → still b is_end held left (l ∷ ls) ≡ held ++ l ∷ still b is_end [] (unwrap_or b 0) ls
  still-written None left l ls other = refl
  still-written (Some most) left l ls other =
      ap (λ k. ending is_end (held ++ k)) (squeezed-other most left l ls other)
      ∙ ending-after is_end held l (squeezed is_empty_line most most ls) other

  still-held : (b : Option ℕ) (left n : ℕ) (l : Text) (ls : List Text) → is_spare b l ≡ true → left ≡ suc n
      → still b is_end held left (l ∷ ls) ≡ still b is_end (held ++ one l) n ls
  still-held None left n l ls is more = absurd cc
  still-held (Some most) left n l ls is more =
      ap (λ k. ending is_end (held ++ squeezed is_empty_line most k (l ∷ ls))) more
      ∙ ap (λ b. ending is_end (held ++ (if b then l ∷ squeezed is_empty_line most n ls else l ∷ squeezed is_empty_line most most ls))) is
      ∙ ap (ending is_end) (sym (append_assoc held (one l) (squeezed is_empty_line most n ls)))

  still-over : (b : Option ℕ) (left : ℕ) (l : Text) (ls : List Text) → is_spare b l ≡ true → left ≡ 0
      → still b is_end held left (l ∷ ls) ≡ still b is_end held left ls
  still-over None left l ls is over = absurd cc
  still-over (Some most) left l ls is over =
      ap (λ k. ending is_end (held ++ squeezed is_empty_line most k (l ∷ ls))) over
      ∙ ap (λ b. ending is_end (held ++ (if b then squeezed is_empty_line most 0 ls else l ∷ squeezed is_empty_line most most ls))) is
      ∙ ap (λ k. ending is_end (held ++ squeezed is_empty_line most k ls)) (sym over)

  -- none is left
  still-end : (b : Option ℕ) (left : ℕ) → list_all (is_spare b) held ≡ true → still b is_end held left [] ≡ (if is_end then [] else held)
  still-end b left empty = by_cases b is_end held empty
    where
      by_cases : (b : Option ℕ) (e : Bool) (held : List Text) → list_all (is_spare b) held ≡ true → still b e held left [] ≡ (if e then [] else held)
      by_cases None true [] empty = refl
      by_cases None false [] empty = refl
      by_cases None e (l ∷ ls) empty = absurd cc
      by_cases (Some most) true held empty = ap (trimmed is_empty_line) (append-nil held) ∙ trimmed-empty held empty
      by_cases (Some most) false held empty = append-nil held

still-start : (b : Option ℕ) (is_start is_end : Bool) (ls : List Text)
    → still b is_end [] (if is_start then 0 else unwrap_or b 0) ls ≡ spaced b is_start is_end ls
still-start None s e ls = refl
still-start (Some most) s e ls = refl

-- ---- the loop

-- What is on the page, where these empty lines are at its end, after so many bytes.
pub record Holds (old : Page) (indent : Option ℕ) (page : Page) (end : ℕ) : Type 0 where
  pub source : page.source ≡ old.source
  pub rules : page.rules ≡ old.rules
  pub run : page.run ≡ old.run
  pub kept : Text
  pub held : List Text
  pub utf8 : IsUtf8 kept
  pub parts : string_bytes page.text ≡ kept ++ flat_map (laid_line (rules_of old.rules) indent) held
  pub place : end ≡ length kept
  pub spare : list_all (is_spare old.rules.blank_lines) held ≡ true

-- With the lines that are left the page has gained all of this.
pub record IsLaid (old : Page) (indent : Option ℕ) (is_end : Bool) (all rest : Text) (page : Page) (left end : ℕ) : Type 0 where
  pub now : Holds old indent page end
  pub is : now.kept ++ flat_map (laid_line (rules_of old.rules) indent) (still old.rules.blank_lines is_end now.held left (laid_of indent (lines rest)))
      ≡ string_bytes old.text ++ all

module _ (old : Page) (indent : Option ℕ) (is_end : Bool) where
  abbrev b : Option ℕ
  b = old.rules.blank_lines

  abbrev laid : List Text → Text
  laid ls = flat_map (laid_line (rules_of old.rules) indent) ls

  laid-all : (i : Option ℕ) (is_start : Bool) (t : Text)
      → flat_map (laid_line (rules_of old.rules) i) (spaced b is_start is_end (laid_of i (lines t))) ≡ laid_lines (rules_of old.rules) is_start is_end i t
  laid-all None s t = refl
  laid-all (Some depth) s t = refl

  pub start-laid : (t : Text) (is_start : Bool) (left end : ℕ)
      → left ≡ (if is_start then 0 else unwrap_or b 0) → end ≡ length (string_bytes old.text)
      → IsLaid old indent is_end (laid_lines (rules_of old.rules) is_start is_end indent t) t old left end
  start-laid t is_start left end is place =
      record {
        now = record {
          source = refl;
          rules = refl;
          run = refl;
          kept = string_bytes old.text;
          held = [];
          utf8 = IsUtf8-string_bytes old.text;
          parts = sym (append-nil (string_bytes old.text));
          place = place;
          spare = refl;
        };
        is = ap (λ k. string_bytes old.text ++ laid (still b is_end [] k (laid_of indent (lines t)))) is
            ∙ ap (λ k. string_bytes old.text ++ laid k) (still-start b is_start is_end (laid_of indent (lines t)))
            ∙ ap (λ k. string_bytes old.text ++ k) (laid-all indent is_start t);
      }

  module _ (all rest : Text) (page : Page) (left end : ℕ) (h : IsLaid old indent is_end all rest page left end) where
    module _ (after l : Text) (split : lines rest ≡ l ∷ lines after) where
      -- white space after the last newline is left out
      pub step-out : is_kept indent l ≡ false → IsLaid old indent is_end all after page left end
      step-out out =
          record {
            now = h.now;
            is = ap (λ k. h.now.kept ++ laid (still b is_end h.now.held left k)) (sym (ap (laid_of indent) split ∙ left-out indent l (lines after) out))
                ∙ h.is;
          }

      module _ (whole : is_kept indent l ≡ true) where
        here : h.now.kept ++ laid (still b is_end h.now.held left (l ∷ laid_of indent (lines after))) ≡ string_bytes old.text ++ all
        here =
            ap (λ k. h.now.kept ++ laid (still b is_end h.now.held left k)) (sym (ap (laid_of indent) split ∙ kept-line indent l (lines after) whole))
            ∙ h.is

        pub step-over : is_spare page.rules.blank_lines l ≡ true → left ≡ 0 → IsLaid old indent is_end all after page left end
        step-over spare over =
            let is : is_spare b l ≡ true = ap (λ r. is_spare r.blank_lines l) (sym h.now.rules) ∙ spare in
            record {
              now = h.now;
              is = ap (λ k. h.now.kept ++ laid k) (sym (still-over is_end h.now.held b left l (laid_of indent (lines after)) is over)) ∙ here;
            }

        module _ (new : Page) (g : Gains (laid_line (rules_of page.rules) indent l) page new) where
          gained : string_bytes new.text ≡ (h.now.kept ++ laid h.now.held) ++ laid_line (rules_of old.rules) indent l
          gained =
              g.text ∙ ap (λ r. string_bytes page.text ++ laid_line (rules_of r) indent l) h.now.rules
              ∙ ap (λ k. k ++ laid_line (rules_of old.rules) indent l) h.now.parts

          pub step-written : is_spare page.rules.blank_lines l ≡ false → (more place : ℕ) → more ≡ unwrap_or b 0 → place ≡ length (string_bytes new.text)
              → IsLaid old indent is_end all after new more place
          step-written other more place is at =
              let ls = laid_of indent (lines after) in
              let next = still b is_end [] (unwrap_or b 0) ls in
              let no : is_spare b l ≡ false = ap (λ r. is_spare r.blank_lines l) (sym h.now.rules) ∙ other in
              record {
                now = record {
                  source = g.source ∙ h.now.source;
                  rules = g.rules ∙ h.now.rules;
                  run = g.run ∙ h.now.run;
                  kept = string_bytes new.text;
                  held = [];
                  utf8 = IsUtf8-string_bytes new.text;
                  parts = sym (append-nil (string_bytes new.text));
                  place = at;
                  spare = refl;
                };
                is = ap (λ k. string_bytes new.text ++ laid (still b is_end [] k ls)) is
                    ∙ ap (λ k. k ++ laid next) gained
                    ∙ append_assoc (h.now.kept ++ laid h.now.held) (laid_line (rules_of old.rules) indent l) (laid next)
                    ∙ append_assoc h.now.kept (laid h.now.held) (laid (l ∷ next))
                    ∙ ap (λ k. h.now.kept ++ k) (sym (flat_map-append (laid_line (rules_of old.rules) indent) h.now.held (l ∷ next)))
                    ∙ ap (λ k. h.now.kept ++ laid k) (sym (still-written is_end h.now.held b left l ls no))
                    ∙ here;
              }

          pub step-held : is_spare page.rules.blank_lines l ≡ true → (n : ℕ) → left ≡ suc n → IsLaid old indent is_end all after new n end
          step-held spare n more =
              let is : is_spare b l ≡ true = ap (λ r. is_spare r.blank_lines l) (sym h.now.rules) ∙ spare in
              record {
                now = record {
                  source = g.source ∙ h.now.source;
                  rules = g.rules ∙ h.now.rules;
                  run = g.run ∙ h.now.run;
                  kept = h.now.kept;
                  held = h.now.held ++ one l;
                  utf8 = h.now.utf8;
                  parts = gained ∙ append_assoc h.now.kept (laid h.now.held) (laid_line (rules_of old.rules) indent l)
                      ∙ ap (λ k. h.now.kept ++ (laid h.now.held ++ k)) (sym (append-nil (laid_line (rules_of old.rules) indent l)))
                      ∙ ap (λ k. h.now.kept ++ k) (sym (flat_map-append (laid_line (rules_of old.rules) indent) h.now.held (one l)));
                  place = h.now.place;
                  spare = list_all-append (is_spare b) h.now.held (one l) ∙ and_both _ _ h.now.spare (and_both _ _ is refl);
                };
                is = ap (λ k. h.now.kept ++ laid k) (sym (still-held is_end h.now.held b left n l (laid_of indent (lines after)) is more)) ∙ here;
              }

    -- ---- the end

    module _ (none : lines rest ≡ []) where
      last : h.now.kept ++ laid (if is_end then [] else h.now.held) ≡ string_bytes old.text ++ all
      last =
          ap (λ k. h.now.kept ++ laid k) (sym (ap (λ k. still b is_end h.now.held left (laid_of indent k)) none ∙ by_indent indent)) ∙ h.is
        where
          by_indent : (i : Option ℕ) → still b is_end h.now.held left (laid_of i []) ≡ (if is_end then [] else h.now.held)
          by_indent None = still-end is_end h.now.held b left h.now.spare
          by_indent (Some depth) = still-end is_end h.now.held b left h.now.spare

      front : take end (string_bytes page.text) ≡ h.now.kept
      front =
          ap (λ n. take n (string_bytes page.text)) h.now.place ∙ ap (take (length h.now.kept)) h.now.parts
          ∙ take-append_seam h.now.kept (laid h.now.held)

      pub end-cut : is_end ≡ true → (new : Page) → new.source ≡ page.source → new.rules ≡ page.rules
          → string_bytes new.text ≡ take end (string_bytes page.text) → new.run ≡ page.run → Gains all old new
      end-cut goes new source rules text run =
          record {
            source = source ∙ h.now.source;
            rules = rules ∙ h.now.rules;
            text = text ∙ front ∙ sym (append-nil h.now.kept)
                ∙ ap (λ e. h.now.kept ++ laid (if e then [] else h.now.held)) (sym goes) ∙ last;
            run = run ∙ h.now.run;
          }

      pub end-boundary : IsCharBoundary (string_bytes page.text) end
      end-boundary =
          IsCharBoundary-from_take (string_bytes page.text) end (IsUtf8-string_bytes page.text) within (subst IsUtf8 (sym front) h.now.utf8)
        where
          within : end ≤ length (string_bytes page.text)
          within = omega (arith, h.now.place, ap length h.now.parts, length-append h.now.kept (laid h.now.held))
