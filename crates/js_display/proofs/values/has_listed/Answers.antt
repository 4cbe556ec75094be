use Rattle.std.proofs.Common.{◌≡◌, ◌∙◌, sym, ap, Some, None}
use Rattle.std.specs.Option.{option_copied}
use Rattle.js_display.specs.Levels.{is_any}
use Rattle.js_display.proofs.Listings.{listed_here}
use Rattle.js_display.proofs.values.has_listed.Goals as goal

pub names-preserved : goal.names-preserved
names-preserved c =
    let none = sym c.listed_at.ensures ∙ ap option_copied c.in_default.is in
    sym (ap is_any (listed_here c.args.properties.now c.args.names.now c.names.name-index c.name-item.result None c.names-test.true c.name-item.is none)) ∙ c.names.invariant

pub returns-in-Some : goal.returns-in-Some
returns-in-Some c =
    let some = sym c.listed_at.ensures ∙ ap option_copied c.in-Some.is in
    sym (ap is_any (listed_here c.args.properties.now c.args.names.now c.names.name-index c.name-item.result (Some c.in-Some.field-0.now) c.names-test.true c.name-item.is some)) ∙ c.names.invariant
