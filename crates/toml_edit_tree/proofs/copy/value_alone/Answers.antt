-- A value alone: a scalar whole, and an array or an inline table without what it holds.
use Rattle.std.proofs.Common.{◌∙◌, string_bytes, sym, ap}
use Rattle.toml_edit_datetime.specs.DatetimeView.{datetime_view}
use Rattle.toml_edit_model.specs.Scalars.{string, integer, float, boolean, datetime}
use Rattle.toml_edit_tree.specs.Emptied.{emptied}
use Rattle.toml_edit_tree.specs.View.{value_view}
use Rattle.toml_edit_tree.specs.declared.value.Value.TheVariants as values
use Rattle.toml_edit_tree.proofs.CopyLaws.{alone-leaf}
use Rattle.toml_edit_tree.proofs.ViewLaws.{view-Array, view-Boolean, view-Datetime, view-Float, view-InlineTable, view-Integer, view-String}
use Rattle.toml_edit_tree.proofs.copy.value_alone.Goals as goal

pub returns-in_ok-clone-in-String : goal.returns-in_ok-clone-in-String
returns-in_ok-clone-in-String c =
    let made = c.in_ok-clone-in-String.ensures in
    alone-leaf values.String (λ s. string (string_bytes s)) view-String c.in-String.scalar c.in_ok-clone-in-String.field-0 made.value made.repr made.decor
    ∙ sym (ap (λ v. emptied (value_view v)) c.in-String.is)

pub returns-in_ok-clone-in-Integer : goal.returns-in_ok-clone-in-Integer
returns-in_ok-clone-in-Integer c =
    let made = c.in_ok-clone-in-Integer.ensures in
    alone-leaf values.Integer (λ z. integer z) view-Integer c.in-Integer.scalar c.in_ok-clone-in-Integer.field-0 made.value made.repr made.decor
    ∙ sym (ap (λ v. emptied (value_view v)) c.in-Integer.is)

pub returns-in_ok-clone-in-Float : goal.returns-in_ok-clone-in-Float
returns-in_ok-clone-in-Float c =
    let made = c.in_ok-clone-in-Float.ensures in
    alone-leaf values.Float (λ t. float t) view-Float c.in-Float.scalar c.in_ok-clone-in-Float.field-0 made.value made.repr made.decor
    ∙ sym (ap (λ v. emptied (value_view v)) c.in-Float.is)

pub returns-in_ok-clone-in-Boolean : goal.returns-in_ok-clone-in-Boolean
returns-in_ok-clone-in-Boolean c =
    let made = c.in_ok-clone-in-Boolean.ensures in
    alone-leaf values.Boolean (λ b. boolean b) view-Boolean c.in-Boolean.scalar c.in_ok-clone-in-Boolean.field-0 made.value made.repr made.decor
    ∙ sym (ap (λ v. emptied (value_view v)) c.in-Boolean.is)

pub returns-in_ok-clone-in-Datetime : goal.returns-in_ok-clone-in-Datetime
returns-in_ok-clone-in-Datetime c =
    let made = c.in_ok-clone-in-Datetime.ensures in
    alone-leaf values.Datetime (λ d. datetime (datetime_view d)) view-Datetime c.in-Datetime.scalar c.in_ok-clone-in-Datetime.field-0 made.value made.repr made.decor
    ∙ sym (ap (λ v. emptied (value_view v)) c.in-Datetime.is)

pub returns-in_ok-array_alone-in-Array : goal.returns-in_ok-array_alone-in-Array
returns-in_ok-array_alone-in-Array c =
    view-Array c.in_ok-array_alone-in-Array.field-0 ∙ c.in_ok-array_alone-in-Array.ensures ∙ sym (ap emptied (view-Array c.in-Array.array))
    ∙ sym (ap (λ v. emptied (value_view v)) c.in-Array.is)

pub returns-in_ok-inline_alone-in-InlineTable : goal.returns-in_ok-inline_alone-in-InlineTable
returns-in_ok-inline_alone-in-InlineTable c =
    view-InlineTable c.in_ok-inline_alone-in-InlineTable.field-0 ∙ c.in_ok-inline_alone-in-InlineTable.ensures ∙ sym (ap emptied (view-InlineTable c.in-InlineTable.table))
    ∙ sym (ap (λ v. emptied (value_view v)) c.in-InlineTable.is)
