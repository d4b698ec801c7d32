-- What is left to write.
use Rattle.std.proofs.Common.{◌≡◌, sym, ap, ◌∙◌, List, ◌++◌}
use Rattle.toml_edit_fmt.specs.PageView.{Bit, Grows, grown, written}
use Rattle.toml_edit_fmt.specs.RulesView.{comments_of}
use Rattle.toml_edit_fmt.specs.declared.page.Page.{Page}
use Rattle.toml_edit_fmt.proofs.PageLaws.{grown-append}

-- After this is written, all will have been since the page was the old one.
pub record Owes (all left : List Bit) (old now : Page) : Type 0 where
  pub source : now.source ≡ old.source
  pub rules : now.rules ≡ old.rules
  pub written : grown (comments_of old.rules.comments) left (written now) ≡ grown (comments_of old.rules.comments) all (written old)

pub owes-less : (all xs left : List Bit) (old a b : Page) → Owes all (xs ++ left) old a → Grows xs a b → Owes all left old b
owes-less all xs left old a b h g =
    let c = comments_of old.rules.comments in
    record {
      source = g.source ∙ h.source;
      rules = g.rules ∙ h.rules;
      written = ap (grown c left) (g.written ∙ ap (λ r. grown (comments_of r.comments) xs (written a)) h.rules)
          ∙ sym (grown-append c xs left (written a)) ∙ h.written;
    }
