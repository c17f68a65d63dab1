use Rattle.std.proofs.Common.{◌≡◌, ◌≤◌, ◌++◌, ℕ, ◌+◌, ◌-◌, length, take, List, subst, sym, ap, ◌∙◌, arith}
use Rattle.std.proofs.Math.Seq.{take-append-add}
use Rattle.std.proofs.lemmas.Grind.{common_steps}
use Rattle.std.proofs.lemmas.List.{length-take-le, take-append-le}
use borrow.Rule.Slice.PartMut.{put_mid, post_of}
use Rattle.std.specs.Io.KnownBytes.{Consumes}
use Rattle.fj_io.proofs.KnownBytes.{consumes_more}
use Rattle.fj_shell.proofs.input.fill.Goals as goal

-- the front of a list whose bytes from n on were written
take-put_mid-more : (xs ys : List ℕ) (n k m : ℕ) → n ≤ length xs → m ≤ length ys → take n xs ++ take m ys ≡ take (n + m) (put_mid n k xs ys)
take-put_mid-more xs ys n k m inside within =
    ap (λ s. take n xs ++ s) (sym (take-append-le m ys (post_of n k xs) within))
    ∙ sym (take-append-add (take n xs) (ys ++ post_of n k xs) m)
    ∙ ap (λ i. take (i + m) (put_mid n k xs ys)) (length-take-le n xs inside)

pub loop-taken-preserved : goal.loop-taken-preserved
loop-taken-preserved g c = record {
  within = grind (arith, common_steps);
  read = subst (λ (bytes : List ℕ). Consumes (g.S.Source.left c.args.source.now) (g.S.Source.left c.read.new.self) bytes)
      (take-put_mid-more c.loop-taken.into c.read.new.into c.loop-taken.taken (length c.loop-taken.into - c.loop-taken.taken) c.in_ok-count.count c.loop-taken.invariant.within c.in_ok-count.ensures.bound.0)
      (consumes_more _ _ _ _ _ c.loop-taken.invariant.read c.in_ok-count.ensures.bytes.0);
  later = omega (arith, c.in_ok-count.ensures.cause.later);
}
