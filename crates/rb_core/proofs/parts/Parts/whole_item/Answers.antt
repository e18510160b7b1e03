use Rattle.std.proofs.Common.{◌≡◌, ◌+◌, arith}
use Rattle.std.proofs.lemmas.Result.{err_from_is_err_and}
use Rattle.rb_core.proofs.whole_placings.Calls.{closed_refused, desk_refused, feed_refused, item_found, place_holds}
use Rattle.rb_core.proofs.whole_placings.Calls.{seen_begins, seen_desk, seen_spells, seen_within, waiting_refused}
use Rattle.rb_core.proofs.whole_placings.Calls.{whole_end_refused}
use Rattle.rb_core.proofs.parts.Parts.whole_item.Goals as goal

pub returns-then-waiting-gt0 : goal.returns-then-waiting-gt0
returns-then-waiting-gt0 c =
    waiting_refused c.args.self.now c.args.publisher c.args.text.now c.left-waiting.result c.requires.there
    c.left-waiting.ensures c.if-waiting-gt0.true

pub returns-in_err-stream : goal.returns-in_err-stream
returns-in_err-stream c =
    let p = err_from_is_err_and c.from_residual.result c.from_residual.ensures.1 in
    rw (p.1, p.2)
    (feed_refused c.args.self.now c.args.publisher c.args.text.now c.left-waiting.result c.in_err-stream.field-0.0
    c.requires.there c.left-waiting.ensures c.if-waiting-gt0.false c.in_err-stream.ensures)

pub index-found-requires : goal.index-found-requires
index-found-requires c =
    omega (arith, seen_within c.args.publisher c.self.view_is c.requires.there, c.self.inside.publishers.ok.0)

pub returns-then-is_some : goal.returns-then-is_some
returns-then-is_some c =
    let begins = seen_begins c.args.publisher c.args.text.now c.left-waiting.result c.self.view_is c.requires.there
    c.index-found.ensures c.left-waiting.ensures c.if-waiting-gt0.false c.in_ok-stream.ensures.0 in
    rw c.refused.ensures (place_holds begins c.if-is_some.ensures)

pub returns-in_err-body : goal.returns-in_err-body
returns-in_err-body c =
    let begins = seen_begins c.args.publisher c.args.text.now c.left-waiting.result c.self.view_is c.requires.there
    c.index-found.ensures c.left-waiting.ensures c.if-waiting-gt0.false c.in_ok-stream.ensures.0 in
    let p = err_from_is_err_and c.from_residual-in_err-body.result c.from_residual-in_err-body.ensures.1 in
    rw (p.1, p.2)
    (whole_end_refused c.in_err-body.field-0.0 begins c.if-is_some.ensures c.self.view_is c.deref.ensures
    c.in_ok-stream.ensures.1 c.in_err-body.ensures)

pub returns-then-is_some-2 : goal.returns-then-is_some-2
returns-then-is_some-2 c =
    let begins = seen_begins c.args.publisher c.args.text.now c.left-waiting.result c.self.view_is c.requires.there
    c.index-found.ensures c.left-waiting.ensures c.if-waiting-gt0.false c.in_ok-stream.ensures.0 in
    let spells = seen_spells c.in_ok-body.body begins c.if-is_some.ensures c.self.view_is c.deref.ensures
    c.in_ok-stream.ensures.1 c.in_ok-body.ensures in
    rw c.refused-then-is_some-2.ensures
    (closed_refused c.closing.result spells c.self.view_is c.closing.ensures c.if-is_some-2.ensures)

pub returns-in-Err : goal.returns-in-Err
returns-in-Err c =
    let begins = seen_begins c.args.publisher c.args.text.now c.left-waiting.result c.self.view_is c.requires.there
    c.index-found.ensures c.left-waiting.ensures c.if-waiting-gt0.false c.in_ok-stream.ensures.0 in
    let spells = seen_spells c.in_ok-body.body begins c.if-is_some.ensures c.self.view_is c.deref.ensures
    c.in_ok-stream.ensures.1 c.in_ok-body.ensures in
    let desk = seen_desk c.closing.result c.self.view_is c.closing.ensures c.if-is_some-2.ensures c.prepare.ensures in
    rw c.refused-in-Err.ensures (desk_refused c.in-Err.why c.requires.world spells desk c.in-Err.is)

pub returns : goal.returns
returns c =
    let begins = seen_begins c.args.publisher c.args.text.now c.left-waiting.result c.self.view_is c.requires.there
    c.index-found.ensures c.left-waiting.ensures c.if-waiting-gt0.false c.in_ok-stream.ensures.0 in
    let spells = seen_spells c.in_ok-body.body begins c.if-is_some.ensures c.self.view_is c.deref.ensures
    c.in_ok-stream.ensures.1 c.in_ok-body.ensures in
    let desk = seen_desk c.closing.result c.self.view_is c.closing.ensures c.if-is_some-2.ensures c.prepare.ensures in
    let next : c.in_ok-own.own ≡ c.index-found.result.now.sent + 1 = grind arith in
    item_found c.in_default.field-0 c.in_ok-own.own c.item_of.result c.requires.world spells desk c.in_default.is next
    c.item_of.ensures
