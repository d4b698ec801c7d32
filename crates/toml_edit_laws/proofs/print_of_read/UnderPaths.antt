-- What holds of all mentions holds of those below a path.
use Rattle.std.proofs.Common.{◌≡◌, refl, sym, ◌∙◌, ap, subst, ℕ, Bool, List, [], ◌∷◌, ◌++◌, append_assoc}
use Rattle.std.specs.Prelude.{filter}
use Rattle.std.specs.List.{AllByRecursion}
use Rattle.toml_edit_model.specs.Text.{one}
use Rattle.toml_edit_model.specs.Syntax.{IsSpacedSegment}
use Rattle.toml_edit_model.specs.Paths.{Step, Path, Mention, Source}
use Rattle.toml_edit_laws.proofs.common.Tests.{append-nil}
use Rattle.toml_edit_laws.proofs.common.Members.{Among}
use Rattle.toml_edit_laws.proofs.mentions.KeptMentions.{moved, under-is}
use Rattle.toml_edit_laws.proofs.mentions.KeptOrder.{HaveOneHeader, under-header}
use Rattle.toml_edit_laws.proofs.mentions.KeptOfPaths.{under-kept, kept_source, under-source}
use Rattle.toml_edit_laws.proofs.mentions.KeptPaths.{kept_in}
use Rattle.toml_edit_laws.proofs.mentions.RankLaws.{RanksFollow, under-follow}
use Rattle.toml_edit_laws.proofs.print_of_read.LevelFacts.{all-under, under-filter}
use Rattle.toml_edit_laws.proofs.mentions.SomeAt.{under-append}
use Rattle.toml_edit_laws.specs.KeptKeys.{under_path}
use Rattle.toml_edit_model.specs.TableMentions.{under}

pub path-step : {S : Type 0} (p : Path) (s : Step) (ms : List (Mention S)) → under_path (p ++ one s) ms ≡ under s (under_path p ms)
path-step [] s ms = refl
path-step (t ∷ p) s ms = path-step p s (under t ms)

pub path-lifted : {S : Type 0} (p : Path) (ms : List (Mention S)) (m : Mention S) → Among m (under_path p ms)
    → Among (moved m (p ++ m.path)) ms
path-lifted [] ms m a = a
path-lifted {S = S} (s ∷ p) ms m a =
    let below = path-lifted p (under s ms) m a in
    let up = under-is s (moved m (p ++ m.path)) ms below in
    subst (λ (x : Mention S). Among x ms)
    (sym (ap (λ (x : Mention S). moved x (s ∷ (p ++ m.path))) up.same ∙ ap (λ q. moved up.mention q) (sym up.path))) up.among

pub path-kept : {S : Type 0} (p q : Path) (ms : List (Mention S)) → kept_in (under_path p ms) q ≡ kept_in ms (p ++ q)
path-kept [] q ms = refl
path-kept (s ∷ p) q ms = path-kept p q (under s ms) ∙ under-kept s (p ++ q) ms

pub path-header : {S : Type 0} (p : Path) (ms : List (Mention S)) → HaveOneHeader ms → HaveOneHeader (under_path p ms)
path-header [] ms h = h
path-header (s ∷ p) ms h = path-header p (under s ms) (under-header s ms h)

pub path-spaced : (p : Path) (ms : List (Mention Source)) → AllByRecursion (λ m. IsSpacedSegment m.segment) ms
    → AllByRecursion (λ m. IsSpacedSegment m.segment) (under_path p ms)
path-spaced [] ms h = h
path-spaced (s ∷ p) ms h = path-spaced p (under s ms) (all-under (λ (m : Mention Source). IsSpacedSegment m.segment) (λ m q g. g) s ms h)

pub path-follow : {S : Type 0} (rank_of : Path → ℕ) (r p : Path) (ms : List (Mention S)) → RanksFollow rank_of r ms
    → RanksFollow rank_of (r ++ p) (under_path p ms)
path-follow {S = S} rank_of r [] ms h = subst (λ q. RanksFollow rank_of q ms) (sym (append-nil r)) h
path-follow {S = S} rank_of r (s ∷ p) ms h =
    subst (λ q. RanksFollow rank_of q (under_path p (under s ms))) (append_assoc r (one s) p)
    (path-follow rank_of (r ++ one s) p (under s ms) (under-follow rank_of r s ms h))

pub path-filter : {S : Type 0} (test : S → Bool) (p : Path) (ms : List (Mention S)) → filter (λ m. test m.source) (under_path p ms)
    ≡ under_path p (filter (λ m. test m.source) ms)
path-filter test [] ms = refl
path-filter test (s ∷ p) ms = path-filter test p (under s ms) ∙ ap (under_path p) (under-filter test s ms)

pub path-append : {S : Type 0} (p : Path) (xs ys : List (Mention S)) → under_path p (xs ++ ys) ≡ under_path p xs ++ under_path p ys
path-append [] xs ys = refl
path-append (s ∷ p) xs ys = ap (under_path p) (under-append s xs ys) ∙ path-append p (under s xs) (under s ys)

-- ---- the statement of a kept mention

pub path-source : {S : Type 0} (p q : Path) (ms : List (Mention S)) → kept_source (under_path p ms) q ≡ kept_source ms (p ++ q)
path-source [] q ms = refl
path-source (s ∷ p) q ms = path-source p q (under s ms) ∙ under-source s (p ++ q) ms
