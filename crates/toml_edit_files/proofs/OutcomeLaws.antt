-- Files that are done with, one after another.
use Rattle.std.proofs.Common.{◌≡◌, ◌≢◌, ◌≤◌, ◌<◌, ◌+◌, ℕ, zero, suc, Bool, true, false, List, [], ◌∷◌, ◌++◌, length, drop, get_or, map, refl, sym, ap, ◌∙◌, append_assoc, append-nil, length-append, subst, inl, inr, arith, string_bytes}
use Rattle.std.specs.Prelude.{MatchBool, ◌-◌, ◌^◌, ◌==◌, if◌then◌else◌, filter, max, min, not, flat_map, Option}
use Rattle.std.specs.declared.alloc.Global.{Global}
use Rattle.std.specs.declared.string.String.{String}
use Rattle.std.proofs.lemmas.List.Elements.{filter-append}
use Rattle.std.proofs.lemmas.List.{drop_more, drop_all, flat_map_more}
use Rattle.file_replace.specs.Events.{Text, Event}
use Rattle.toml_edit_files.specs.Folders.{LeavesInput}
use Rattle.toml_edit_files.specs.Outcomes.{AreDone, DoesAll, WasRead, undone_of, worst}
use Rattle.toml_edit_files.specs.declared.told.Told.{Told}

abbrev output : Told → Text
output t = string_bytes t.output

abbrev notes : Told → Text
notes t = string_bytes t.notes

abbrev statuses : List Told → List ℕ
statuses ts = map (λ t. t.status) ts

worst-more : (ts : List Told) (t : Told) → worst (statuses (ts ++ (t ∷ []))) ≡ max (worst (statuses ts)) t.status
worst-more [] t = omega arith
worst-more (u ∷ ts) t =
    let more : worst (statuses (ts ++ (t ∷ []))) ≡ max (worst (statuses ts)) t.status = worst-more ts t in omega (arith, more)

-- ---- how many are not done

abbrev pub undone_num : ℕ → ℕ
undone_num n = if n == 0 then 0 else 1

abbrev pub undone_one : Told → ℕ
undone_one t = undone_num t.status

abbrev one-of : Bool → ℕ
one-of true = 1
one-of false = 0

one-if : (t : Told) (b : Bool) → length (if b then t ∷ [] else []) ≡ one-of b
one-if t true = refl
one-if t false = refl

one-above : (b : Bool) → one-of (not b) ≡ (if b then 0 else 1)
one-above true = refl
one-above false = refl

undone-more : (ts : List Told) (t : Told) → undone_of (ts ++ (t ∷ [])) ≡ undone_of ts + undone_one t
undone-more ts t =
    ap length (filter-append (λ u. not (u.status == 0)) ts (t ∷ []))
    ∙ length-append (filter (λ u. not (u.status == 0)) ts) (filter (λ u. not (u.status == 0)) (t ∷ [])) ∙ ap (λ n. undone_of ts + n) (one-if t (not (t.status == 0)) ∙ one-above (t.status == 0))

-- up to a limit
capped : (u n one limit : ℕ) → u ≡ min n limit → min (u + one) limit ≡ min (n + one) limit
capped u n one limit is = rw is omega arith

pub undone_then : (ts : List Told) (t : Told) (limit u v : ℕ) → u ≡ min (undone_of ts) limit → v ≡ min (u + undone_one t) limit
    → v ≡ min (undone_of (ts ++ (t ∷ []))) limit
undone_then ts t limit u v had is =
    is ∙ capped u (undone_of ts) (undone_one t) limit had ∙ ap (λ n. min n limit) (sym (undone-more ts t))

-- ---- one after another

module _ (Does : Text → Told → Option (List Event) → Option (List Event) → Option Text → Type 0) (names : List Text)
    (start : Option (List Event)) (first : Option Text) where
  -- The files before the rest are done, and so all are if the rest is.
  pub record SoFar (rest : List Text) (now : Option (List Event)) (left : Option Text) (all : Told) (undone : ℕ) : Type 0 where
    pub told : List Told
    pub count : length told + length rest ≡ length names
    pub status : all.status ≡ worst (statuses told)
    pub output : string_bytes all.output ≡ flat_map (λ t. string_bytes t.output) told
    pub notes : string_bytes all.notes ≡ flat_map (λ t. string_bytes t.notes) told
    pub counted : undone ≡ min (undone_of told) (2 ^ 64 - 1)
    pub onward : (more : List Told) (new : Option (List Event)) → AreDone Does rest more now new left
        → AreDone Does names (told ++ more) start new first

  module _ (name : Text) (rest : List Text) (now next : Option (List Event)) (left after : Option Text) (all new t : Told)
      (u v : ℕ) (so : SoFar (name ∷ rest) now left all u) (counted : v ≡ min (u + undone_one t) (2 ^ 64 - 1)) (does : Does name t now next left) where
    pub one_more : LeavesInput (WasRead t) name left after → t.status ≢ 3 → new.status ≡ max all.status t.status → string_bytes new.output ≡ string_bytes all.output ++ string_bytes t.output
        → string_bytes new.notes ≡ string_bytes all.notes ++ string_bytes t.notes → SoFar rest next after new v
    one_more leaves sound status written noted = record {
      told = so.told ++ (t ∷ []);
      count = let had : length so.told + length (name ∷ rest) ≡ length names = so.count in rw (length-append so.told (t ∷ [])) omega (arith, had);
      status = status ∙ ap (λ (s : ℕ). max s t.status) so.status ∙ sym (worst-more so.told t);
      output = written ∙ ap (λ (s : Text). s ++ string_bytes t.output) so.output ∙ flat_map_more output [] so.told t;
      notes = noted ∙ ap (λ (s : Text). s ++ string_bytes t.notes) so.notes ∙ flat_map_more notes [] so.told t;
      counted = undone_then so.told t (2 ^ 64 - 1) u v so.counted counted;
      onward = λ more end are. subst (λ (ts : List Told). AreDone Does names ts start end first) (sym (append_assoc so.told (t ∷ []) more))
          (so.onward (t ∷ more) end (next, after, does, leaves, sound, are));
    }

    -- memory runs out at this one
    pub all_before : new.status ≡ 3 → string_bytes new.output ≡ string_bytes all.output → DoesAll Does names start next first new v
    all_before status same = record {
      told = so.told;
      done = subst (λ (ts : List Told). AreDone Does names ts start next first) (append-nil so.told) (so.onward [] next (t, does));
      status = let had : length so.told + length (name ∷ rest) ≡ length names = so.count in inr (omega (arith, had), status);
      output = same ∙ so.output;
    }

  pub all_done : (now : Option (List Event)) (left : Option Text) (all : Told) (u : ℕ) → SoFar [] now left all u → DoesAll Does names start now first all u
  all_done now left all u so = record {
    told = so.told;
    done = subst (λ (ts : List Told). AreDone Does names ts start now first) (append-nil so.told) (so.onward [] now refl);
    status = let had : length so.told + 0 ≡ length names = so.count in inl (omega (arith, had), so.status, so.notes, so.counted);
    output = so.output;
  }

-- the names of files that are left
abbrev pub names_from : ℕ → List (String Global) → List Text
names_from i fs = map string_bytes (drop i fs)

pub names_here : (fs : List (String Global)) (i : ℕ) (d : String Global) → i < length fs
    → names_from i fs ≡ string_bytes (get_or fs i d) ∷ names_from (i + 1) fs
names_here fs i d below = ap (map string_bytes) (drop_more fs i d below)

pub names_past : (fs : List (String Global)) (i : ℕ) → length fs ≤ i → names_from i fs ≡ []
names_past fs i past = ap (map string_bytes) (drop_all i fs past)

-- ---- the turn of a loop over files

clash : false ≡ true → ⊥
clash e = cc

pub is_true : (A B : Type 0) (r : Bool) → r ≡ true → MatchBool r A B → A
is_true A B true is h = h
is_true A B false is h = absurd (clash is)

pub is_false : (A B : Type 0) (r : Bool) → r ≡ false → MatchBool r A B → B
is_false A B false is h = h
is_false A B true is h = absurd (clash (sym is))

module _ (Does : Text → Told → Option (List Event) → Option (List Event) → Option Text → Type 0) (fs : List (String Global))
    (start : Option (List Event)) (first : Option Text) (i : ℕ) (now : Option (List Event)) (left : Option Text) (all : Told) (u : ℕ)
    (so : SoFar Does (names_from 0 fs) start first (names_from i fs) now left all u) where
  pub done_at : length fs ≤ i → DoesAll Does (names_from 0 fs) start now first all u
  done_at past =
      all_done Does (names_from 0 fs) start first now left all u
      (subst (λ (ns : List Text). SoFar Does (names_from 0 fs) start first ns now left all u) (names_past fs i past) so)

  module _ (d : String Global) (below : i < length fs) (file : Text) (named : file ≡ string_bytes (get_or fs i d)) (next : Option (List Event)) (t : Told)
      (does : Does file t now next left) (new : Told) (v : ℕ) (r : Bool)
      (told : MatchBool r ((new.status ≡ max all.status t.status) × (string_bytes new.output ≡ string_bytes all.output ++ string_bytes t.output)
      × (string_bytes new.notes ≡ string_bytes all.notes ++ string_bytes t.notes))
      ((new.status ≡ 3) × (string_bytes new.output ≡ string_bytes all.output)))
      (counted : v ≡ min (u + undone_one t) (2 ^ 64 - 1)) where
    here : SoFar Does (names_from 0 fs) start first (file ∷ names_from (i + 1) fs) now left all u
    here =
        subst (λ (ns : List Text). SoFar Does (names_from 0 fs) start first ns now left all u)
        (names_here fs i d below ∙ ap (λ n. n ∷ names_from (i + 1) fs) (sym named)) so

    pub more_at : (after : Option Text) → LeavesInput (WasRead t) file left after → (t.status ≡ 3 → r ≡ false) → r ≡ true
        → SoFar Does (names_from 0 fs) start first (names_from (i + 1) fs) next after new v
    more_at after leaves memory added =
        let h : (new.status ≡ max all.status t.status) × (string_bytes new.output ≡ string_bytes all.output ++ string_bytes t.output)
        × (string_bytes new.notes ≡ string_bytes all.notes ++ string_bytes t.notes) = is_true _ _ r added told in
        one_more Does (names_from 0 fs) start first _ _ now next left after all new t u v here counted does leaves (λ e. clash (sym (memory e) ∙ added)) h.0 h.1 h.2

    pub before_at : r ≡ false → DoesAll Does (names_from 0 fs) start next first new v
    before_at is =
        let h : (new.status ≡ 3) × (string_bytes new.output ≡ string_bytes all.output) = is_false _ _ r is told in
        all_before Does (names_from 0 fs) start first _ _ now next left left all new t u v here counted does h.0 h.1
