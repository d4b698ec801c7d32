-- What is laid out at each place.
use Rattle.toml_edit_fmt_laws.proofs.GapLaws.{gap-whole, gap-again, gap-comments, comma-whole, comma-again, comma-comments}
use Rattle.toml_edit_fmt_laws.proofs.LeadingLaws.{leading-whole, leading-again, leading-comments}
use Rattle.toml_edit_fmt_laws.proofs.HeaderLaws.{header-whole, header-again, header-comments}
use Rattle.toml_edit_fmt_laws.proofs.layouts.Goals as goal

pub returns : goal.returns
returns c = λ r depth t h. record {
  line = λ s. record {
    trivia = leading-whole r s depth t h;
    same = leading-comments r s depth t h;
    again = leading-again r s depth t h;
  };
  header = λ s. record {
    trivia = header-whole r s depth t h;
    same = header-comments r s depth t h;
    again = header-again r s depth t h;
  };
  between = λ pad s e last. record {
    trivia = gap-whole r pad s e depth last t h;
    same = gap-comments r pad s e depth last t h;
    again = gap-again r pad pad s e depth last t h;
  };
  comma = record {
    trivia = comma-whole r depth t h;
    same = comma-comments r depth t h;
    again = comma-again r depth t h;
  };
}
