-- A stable sort by place.
use Rattle.std.proofs.Common.{refl, rules}
use Rattle.toml_edit_laws.proofs.print_by_visits.SortedHeaders.{sorted-views-by_key}
use Rattle.toml_edit.specs.HeadersView.{header_view}
use Rattle.toml_edit.proofs.headers.sort_headers.Goals as goal

pub returns : goal.returns
returns c =
    sorted-views-by_key header_view (λ h. h.place) (λ h. refl) _ _ c.in_ok-sort_by_key.ensures.sorted c.in_ok-sort_by_key.ensures.stable
    (λ a r f k. search rules)
