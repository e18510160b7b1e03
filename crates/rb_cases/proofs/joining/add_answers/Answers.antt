use Rattle.std.proofs.Common.{◌≡◌, ◌∙◌, ap, length, map, min, rules, take}
use Rattle.rb_cases.proofs.Joins.{first_seen, left_is}
use Rattle.rb_cases.proofs.joining.add_answers.Goals as goal

pub returns-clause-left : goal.returns-clause-left
returns-clause-left c =
    let given = c.args.given.now in
    let few : c.min-pieces.result ≡ min c.args.n (length given) = search rules in
    let some : c.min-rows.result ≡ min c.rows_of.result (length c.split_at.result.1.now) = search rules in
    left_is (λ answer. answer.now) c.args.n c.rows_of.result c.min-pieces.result c.min-rows.result given
    c.split_at.result.0.now c.split_at.result.1.now c.one_of-answer.result few c.split_at.ensures.back some
    (ap (map (λ answer. answer.now)) c.split_at.ensures.front
    ∙ ap (λ k. map (λ answer. answer.now) (take k given)) few ∙ first_seen (λ answer. answer.now) c.args.n given)
    c.one_of-answer.ensures c.rows_of.ensures
