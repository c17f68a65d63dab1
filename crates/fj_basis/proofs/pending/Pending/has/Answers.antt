use Rattle.std.proofs.Common.{◌⊎◌, length, IsTrue, refl, ap, subst, arith}
use Rattle.fj_basis.specs.Pending.{HasPair}
use Rattle.fj_basis.proofs.PendingIndex.{bit-at, row-long, told-earlier, told-later}
use Rattle.fj_basis.proofs.pending.Pending.has.Goals as goal

pub index-requires-then-i-j : goal.index-requires-then-i-j
index-requires-then-i-j g c =
    let leads = ap (λ v. length v.leads) c.self.view_is in
    let second = c.requires.second in
    let row = c.index.result.now in
    let long = row-long c.self.invariant (λ r. r.items) c.self.inside.rows.items c.args.j row refl (omega (arith, second, leads)) c.index.ensures in
    let count = row.ok.0 in
    let is = long.1 in
    let less = c.if-i-j.true in
    omega (arith, count, is, less)

pub index-requires-then-j-i-2 : goal.index-requires-then-j-i-2
index-requires-then-j-i-2 g c =
    let leads = ap (λ v. length v.leads) c.self.view_is in
    let first = c.requires.first in
    let row = c.index-then-j-i.result.now in
    let long = row-long c.self.invariant (λ r. r.items) c.self.inside.rows.items c.args.i row refl (omega (arith, first, leads)) c.index-then-j-i.ensures in
    let count = row.ok.0 in
    let is = long.1 in
    let less = c.if-j-i.true in
    omega (arith, count, is, less)

pub returns-then-i-j : goal.returns-then-i-j
returns-then-i-j g c =
    let leads = ap (λ v. length v.leads) c.self.view_is in
    let i = c.args.i in
    let j = c.args.j in
    let b = c.index-then-i-j.result.now in
    let second = c.requires.second in
    let row = c.index.result.now in
    let long = row-long c.self.invariant (λ r. r.items) c.self.inside.rows.items j row refl (omega (arith, second, leads)) c.index.ensures in
    let is = long.1 in
    let less = c.if-i-j.true in
    subst (λ pairs. (IsTrue b → HasPair pairs i j ⊎ HasPair pairs j i) × (HasPair pairs i j ⊎ HasPair pairs j i → IsTrue b)) (ap (λ v. v.pairs) c.self.view_is)
    (told-later c.self.invariant i j b less
    (bit-at (λ r. r.items) c.self.inside.rows.items i j row b long.0 c.index.ensures (omega (arith, less, is)) c.index-then-i-j.ensures))

pub returns-then-j-i : goal.returns-then-j-i
returns-then-j-i g c =
    let leads = ap (λ v. length v.leads) c.self.view_is in
    let i = c.args.i in
    let j = c.args.j in
    let b = c.index-then-j-i-2.result.now in
    let first = c.requires.first in
    let row = c.index-then-j-i.result.now in
    let long = row-long c.self.invariant (λ r. r.items) c.self.inside.rows.items i row refl (omega (arith, first, leads)) c.index-then-j-i.ensures in
    let is = long.1 in
    let less = c.if-j-i.true in
    subst (λ pairs. (IsTrue b → HasPair pairs i j ⊎ HasPair pairs j i) × (HasPair pairs i j ⊎ HasPair pairs j i → IsTrue b)) (ap (λ v. v.pairs) c.self.view_is)
    (told-earlier c.self.invariant i j b less
    (bit-at (λ r. r.items) c.self.inside.rows.items j i row b long.0 c.index-then-j-i.ensures (omega (arith, less, is)) c.index-then-j-i-2.ensures))
