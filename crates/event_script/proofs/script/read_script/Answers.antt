use Rattle.std.proofs.Common.{◌≡◌, ◌+◌, [], ◌∷◌, ◌∙◌, All, Some, IfSome, ap, sym, subst, length, length-append, arith}
use Rattle.std.proofs.lemmas.List.Elements.{All-nil, All-push}
use Rattle.event_script.specs.Allowed.{IsAllowed}
use Rattle.std.specs.Str.Lines.{lines}
use Rattle.event_script.specs.Script.{numbered}
use Rattle.event_script.proofs.Read.{behind_all, wrong, silent, told, all_read, none_read}
use Rattle.event_script.proofs.script.read_script.Goals as goal

pub lines-init : goal.lines-init
lines-init c = record {
  few = omega (arith, c.requires);
  told = omega (arith, ap length c.new-read.ensures.items);
  allowed = subst (All (λ line. IsAllowed line.what)) (sym c.new-read.ensures.items) (All-nil (λ line. IsAllowed line.what));
  read = ap (λ front. behind_all front (numbered 1 (lines c.args.bytes.now))) c.new-read.ensures.items ∙ none_read c.args.bytes.now;
}

pub returns-in-None-clause-exact : goal.returns-in-None-clause-exact
returns-in-None-clause-exact c =
    let cut = c.in-Some.ensures.0 in
    sym c.lines.invariant.read ∙ wrong c.lines.read.items (c.lines.number + 1) c.lines.rest.now c.in-Some.line.now c.in-Some.more.now cut (sym c.in_ok-line_of.ensures.value ∙ c.in-None.is)

pub lines-preserved-in-Some-None : goal.lines-preserved-in-Some-None
lines-preserved-in-Some-None c =
    let shorter = c.in-Some.ensures.2 in
    record {
      few = omega arith;
      told = omega arith;
      allowed = c.lines.invariant.allowed;
      read = silent c.lines.read.items (c.lines.number + 1) c.lines.rest.now c.in-Some.line.now c.in-Some.more.now c.in-Some.ensures.0 (sym c.in_ok-line_of.ensures.value ∙ cc) ∙ c.lines.invariant.read;
    }

pub lines-preserved : goal.lines-preserved
lines-preserved c =
    let number = c.lines.number + 1 in
    let rest = numbered (number + 1) (lines c.in-Some.more.now) in
    let shorter = c.in-Some.ensures.2 in
    let next : c.in_ok-line_of.field-0 ≡ Some (Some c.in-Some-Some.what) = cc in
    let allowed : IsAllowed c.in-Some-Some.what = subst (λ found. IfSome found (λ effect. IfSome effect IsAllowed)) next c.in_ok-line_of.ensures.allowed in
    record {
      few = omega arith;
      told = omega (arith, ap length c.in_ok-push-in-Some-Some.ensures.items, length-append c.lines.read.items (record { number = number; what = c.in-Some-Some.what } ∷ []));
      allowed = subst (All (λ line. IsAllowed line.what)) (sym c.in_ok-push-in-Some-Some.ensures.items) (All-push (λ line. IsAllowed line.what) c.lines.read.items (record { number = number; what = c.in-Some-Some.what }) c.lines.invariant.allowed allowed);
      read = ap (λ front. behind_all front rest) c.in_ok-push-in-Some-Some.ensures.items ∙ (told c.lines.read.items number c.lines.rest.now c.in-Some.line.now c.in-Some.more.now c.in-Some.ensures.0 c.in-Some-Some.what (sym c.in_ok-line_of.ensures.value ∙ next) ∙ c.lines.invariant.read);
    }

pub returns-clause-exact : goal.returns-clause-exact
returns-clause-exact c =
    sym c.lines.invariant.read ∙ all_read c.lines.read.items (c.lines.number + 1) c.lines.rest.now c.in_default.ensures
