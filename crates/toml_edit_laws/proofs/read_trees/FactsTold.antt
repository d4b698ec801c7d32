-- The facts that the mentions of a document tell, one by one, as each table sees them.
use Rattle.std.proofs.Common.{◌≡◌, ◌⊎◌, ◌<◌, ℕ, refl, sym, ap, subst, ◌∙◌, arith, inl, inr, true, false, Bool, List, [], ◌∷◌, ◌++◌}
use Rattle.std.proofs.Common.{append_assoc}
use Rattle.toml_edit_model.specs.Syntax.{Statement, key_line, header}
use Rattle.toml_edit_model.specs.Paths.{Step, Path, to_element, Mention, Source}
use Rattle.toml_edit_model.specs.Meaning.{Fact, fact, a_table, an_array, value_facts}
use Rattle.toml_edit_laws.proofs.common.Members.{Among}
use Rattle.toml_edit_laws.proofs.mentions.KeptMentions.{moved, under-has, under-is}
use Rattle.toml_edit_laws.proofs.clashes.ClashCounts.{count_at, count-under, count-none}
use Rattle.toml_edit_model.specs.Roles.{Role, dotted_role, implied_role, header_role, array_role, value_role, continued_role, is_array_role}
use Rattle.toml_edit_model.specs.TableMentions.{under, some_at}

-- what a statement tells of a path by a role
abbrev pub role_told : Role → Statement → Path → List Fact
role_told value_role (key_line f v end) p = value_facts v p
role_told value_role (header h end) p = []
role_told array_role s p = fact p an_array ∷ []
role_told continued_role s p = []
role_told dotted_role s p = fact p a_table ∷ []
role_told implied_role s p = fact p a_table ∷ []
role_told header_role s p = fact p a_table ∷ []

-- what a mention below this path tells
abbrev pub mention_told : Path → Mention Source → List Fact
mention_told p m = role_told m.role m.source.statement (p ++ m.path)

pub record Told (p : Path) (ms : List (Mention Source)) (f : Fact) : Type 0 where
  pub mention : Mention Source
  pub among : Among mention ms
  pub told : Among f (mention_told p mention)

-- the table of an element, where there are so many headers in double brackets of its array
pub record Numbered (p : Path) (ms : List (Mention Source)) (f : Fact) : Type 0 where
  pub path : Path
  pub number : ℕ
  pub within : number < count_at is_array_role path ms
  pub is : f ≡ fact (to_element (p ++ path) number) a_table

abbrev pub Tells : Path → List (Mention Source) → Fact → Type 0
Tells p ms f = Told p ms f ⊎ Numbered p ms f

-- ---- one step down

step-told : (p : Path) (s : Step) (q : Path) (m n : Mention Source) → m.path ≡ s ∷ q → n ≡ moved m q → mention_told (p ++ (s ∷ [])) n
    ≡ mention_told p m
step-told p s q m n e same =
    ap (mention_told (p ++ (s ∷ []))) same
    ∙ ap (role_told m.role m.source.statement) (append_assoc p (s ∷ []) q ∙ ap (λ x. p ++ x) (sym e))

pub rise : (p : Path) (s : Step) (ms : List (Mention Source)) (f : Fact) → Tells (p ++ (s ∷ [])) (under s ms) f → Tells p ms f
rise p s ms f (inl t) =
    let up = under-is s t.mention ms t.among in
    inl (record {
      mention = up.mention;
      among = up.among;
      told = subst (Among f) (step-told p s t.mention.path up.mention t.mention up.path up.same) t.told;
    })
rise p s ms f (inr t) =
    inr (record {
      path = s ∷ t.path;
      number = t.number;
      within = subst (λ n. t.number < n) (count-under is_array_role s t.path ms) t.within;
      is = t.is ∙ ap (λ x. fact (to_element x t.number) a_table) (append_assoc p (s ∷ []) t.path);
    })

pub sink-told : (p : Path) (s : Step) (q : Path) (ms : List (Mention Source)) (f : Fact) (m : Mention Source) → Among m ms → m.path ≡ s ∷ q
    → Among f (mention_told p m) → Told (p ++ (s ∷ [])) (under s ms) f
sink-told p s q ms f m a e t =
    record {
      mention = moved m q;
      among = under-has s q m ms a e;
      told = subst (Among f) (sym (step-told p s q m (moved m q) e refl)) t;
    }

pub sink-numbered : (p : Path) (s : Step) (q : Path) (ms : List (Mention Source)) (f : Fact) (n : ℕ) → n < count_at is_array_role (s ∷ q) ms
    → f ≡ fact (to_element (p ++ (s ∷ q)) n) a_table → Numbered (p ++ (s ∷ [])) (under s ms) f
sink-numbered p s q ms f n w e =
    record {
      path = q;
      number = n;
      within = subst (λ x. n < x) (sym (count-under is_array_role s q ms)) w;
      is = e ∙ ap (λ x. fact (to_element x n) a_table) (sym (append_assoc p (s ∷ []) q));
    }

-- ---- mentions and roles at a path

-- where there is a number, there is an array
pub count-some : (p : Path) (ms : List (Mention Source)) (n : ℕ) → n < count_at is_array_role p ms → some_at is_array_role p ms ≡ true
count-some p ms n h = by_test (some_at is_array_role p ms) refl
  where
    by_test : (b : Bool) → some_at is_array_role p ms ≡ b → b ≡ true
    by_test true e = refl
    by_test false e = let none = count-none is_array_role p ms e in absurd (omega arith)
