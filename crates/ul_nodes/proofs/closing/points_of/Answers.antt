use Rattle.std.proofs.Common.{◌≡◌, ap, sym, ◌∙◌, arith, true, false, refl, map, string_bytes}
use Rattle.std.specs.List.{All}
use Rattle.ul_nodes.specs.Keys.{is_literal_key, key_view}
use Rattle.ul_nodes.proofs.Making.{head_tail}
use Rattle.ul_nodes.proofs.Closed.{row_step, view_step, rows_end}
use Rattle.ul_nodes.proofs.closing.points_of.Goals as goal
use Rattle.ul_nodes.proofs.closing.points_of.Goals.{In-Some}

-- the next branch has a literal, and so do those after it
next_is : (g : _) (c : In-Some g) → (is_literal_key c.in-Some.key ≡ true) × All (λ e. is_literal_key e.0 ≡ true) c.next.new.self.rest.items
next_is g c = head_tail (λ e. is_literal_key e.0 ≡ true) (c.in-Some.key, c.in-Some.part) c.loop-key.key-iterator.rest.items c.next.new.self.rest.items c.in-Some.ensures.steps.0 c.loop-key.invariant.kinds

pub loop-key-preserved : goal.loop-key-preserved
loop-key-preserved g c = record {
  texts = view_step string_bytes (λ e. key_view e.0) c.loop-key.texts.items c.push.new.self.items c.in_ok-from_str-in-Literal.field-0 (c.in-Some.key, c.in-Some.part) c.loop-key.key-iterator.rest.items c.next.new.self.rest.items _
      c.in_ok-push-in-Literal.ensures.items (c.in_ok-from_str-in-Literal.ensures.ok ∙ sym (ap key_view c.in-Literal.is)) c.in-Some.ensures.steps.0 c.loop-key.invariant.texts;
  parts = row_step (λ e. e.1) c.loop-key.parts.items c.push-in-Literal.new.self.items c.in-Some.part (c.in-Some.key, c.in-Some.part) c.loop-key.key-iterator.rest.items c.next.new.self.rest.items _
      c.in_ok-push-in-Literal-2.ensures.items refl c.in-Some.ensures.steps.0 c.loop-key.invariant.parts;
  kinds = (next_is g (goal.at.loop-key-preserved g c).In-Some).1;
}

pub unreachable-requires : goal.unreachable-requires
unreachable-requires g c = let r : true ≡ false = sym (next_is g (goal.at.unreachable-requires g c).In-Some).0 ∙ ap is_literal_key c.in-Number.is in cc

pub unreachable-requires-in-Holds : goal.unreachable-requires-in-Holds
unreachable-requires-in-Holds g c = let r : true ≡ false = sym (next_is g (goal.at.unreachable-requires-in-Holds g c).In-Some).0 ∙ ap is_literal_key c.in-Holds.is in cc

pub returns-clause-texts : goal.returns-clause-texts
returns-clause-texts g c = rows_end (λ e. key_view e.0) (map string_bytes c.loop-key.texts.items) _ c.loop-key.key-iterator.rest.items (omega (arith, c.in-None.ensures.steps.0, c.loop-key.key-iterator.rest.ok)) c.loop-key.invariant.texts

pub returns-clause-parts : goal.returns-clause-parts
returns-clause-parts g c = rows_end (λ e. e.1) c.loop-key.parts.items _ c.loop-key.key-iterator.rest.items (omega (arith, c.in-None.ensures.steps.0, c.loop-key.key-iterator.rest.ok)) c.loop-key.invariant.parts
