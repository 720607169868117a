-- The group's rows are marked and collected.
use mathlib.Core.Path.{◌≡◌, ap, ◌∙◌, sym}
use mathlib.Core.List.{List, ◌++◌}
use Prim.Native.Nat.{ℕ}
use native.Mathlib.Omega.{arith}
use lib.ListN.{length, get_or, take, drop}
use lib.Seq.{length-take-le, take_at}
use Rattle.base.proofs.Lists.{in_get, get_d_zeros}
use Rattle.levels.proofs.Members.{own-length}
use Rattle.search.proofs.Searched.{marked-are, marked-bit}
use Rattle.search.proofs.gather.Goals as goal

pub mark-requires : goal.mark-requires
mark-requires c = λ i l. omega (arith, c.requires.1.inside (get_or c.args.order.now i 0) (in_get c.args.order.now i l), c.requires.0)

pub collect-requires : goal.collect-requires
collect-requires c =
    let blank : (v : ℕ) → get_or c.fill.new.self v 0 ≡ 0 = λ v. ap (λ (xs : List ℕ). get_or xs v 0) (c.fill.ensures.after (λ y e. e)) ∙ get_d_zeros (length c.args.marks.now) v in (
      c.requires.0,
      length-take-le (length c.args.order.now) c.args.own.now c.requires.2
          ∙ sym (ap length (marked-are c.args.n c.args.order.now c.fill.new.self c.mark.new.marks blank c.mark.ensures) ∙ own-length c.requires.1),
    )

pub returns : goal.returns
returns c =
    let a = c.args in
    let blank : (v : ℕ) → get_or c.fill.new.self v 0 ≡ 0 = λ v. ap (λ (xs : List ℕ). get_or xs v 0) (c.fill.ensures.after (λ y e. e)) ∙ get_d_zeros (length a.marks.now) v in
    let front : take (length a.order.now) (c.collect.new.list ++ drop (length a.order.now) a.own.now) ≡ c.collect.new.list =
    take_at c.collect.new.list (drop (length a.order.now) a.own.now) (length a.order.now) (c.collect.auto.list ∙ length-take-le (length a.order.now) a.own.now c.requires.2) in
    record {
      own_is = front ∙ c.collect.ensures ∙ marked-are a.n a.order.now c.fill.new.self c.mark.new.marks blank c.mark.ensures;
      all = ap length (front ∙ c.collect.ensures);
      marked = marked-bit a.order.now c.fill.new.self c.mark.new.marks blank c.mark.ensures;
    }
