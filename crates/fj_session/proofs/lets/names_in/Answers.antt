use Rattle.std.proofs.Common.{refl}
use Rattle.fj_session.proofs.Marks.{one_name, two_names}
use Rattle.fj_session.proofs.lets.names_in.Goals as goal

pub returns-in-Parts : goal.returns-in-Parts
returns-in-Parts c = one_name _ c.in-Parts.is c.in-Parts.f refl

pub returns-in-Basis : goal.returns-in-Basis
returns-in-Basis c = one_name _ c.in-Basis.is c.in-Basis.j refl

pub returns-in-Member : goal.returns-in-Member
returns-in-Member c = two_names _ c.in-Member.is c.in-Member.f c.in-Member.j refl

pub returns-in-Same : goal.returns-in-Same
returns-in-Same c = two_names _ c.in-Same.is c.in-Same.j c.in-Same.k refl

pub returns-in-Sum : goal.returns-in-Sum
returns-in-Sum c = two_names _ c.in-Sum.is c.in-Sum.j c.in-Sum.k refl

pub returns-in-Product : goal.returns-in-Product
returns-in-Product c = two_names _ c.in-Product.is c.in-Product.j c.in-Product.k refl

pub returns-in-Meet : goal.returns-in-Meet
returns-in-Meet c = two_names _ c.in-Meet.is c.in-Meet.j c.in-Meet.k refl

pub returns-in-Colon : goal.returns-in-Colon
returns-in-Colon c = two_names _ c.in-Colon.is c.in-Colon.j c.in-Colon.k refl

pub returns-in-Power : goal.returns-in-Power
returns-in-Power c = one_name _ c.in-Power.is c.in-Power.j refl

pub returns-in-Root : goal.returns-in-Root
returns-in-Root c = one_name _ c.in-Root.is c.in-Root.j refl

pub returns-in-Test : goal.returns-in-Test
returns-in-Test c = one_name _ c.in-Test.is c.in-Test.f refl

pub returns-in-Left : goal.returns-in-Left
returns-in-Left c = one_name _ c.in-Left.is c.in-Left.f refl

pub returns-in-IsJump : goal.returns-in-IsJump
returns-in-IsJump c = one_name _ c.in-IsJump.is c.in-IsJump.f refl

pub returns-in-Regular : goal.returns-in-Regular
returns-in-Regular c = one_name _ c.in-Regular.is c.in-Regular.f refl

pub returns-in-Jumps : goal.returns-in-Jumps
returns-in-Jumps c = one_name _ c.in-Jumps.is c.in-Jumps.f refl

pub returns-in-Nu : goal.returns-in-Nu
returns-in-Nu c = two_names _ c.in-Nu.is c.in-Nu.f c.in-Nu.j refl

pub returns-in-Threshold : goal.returns-in-Threshold
returns-in-Threshold c = two_names _ c.in-Threshold.is c.in-Threshold.f c.in-Threshold.j refl

pub returns-in-ThresholdAt : goal.returns-in-ThresholdAt
returns-in-ThresholdAt c = two_names _ c.in-ThresholdAt.is c.in-ThresholdAt.f c.in-ThresholdAt.at refl

pub returns-in-Pure : goal.returns-in-Pure
returns-in-Pure c = one_name _ c.in-Pure.is c.in-Pure.j refl

pub returns-in-PureAt : goal.returns-in-PureAt
returns-in-PureAt c = two_names _ c.in-PureAt.is c.in-PureAt.j c.in-PureAt.at refl

pub returns-in-Split : goal.returns-in-Split
returns-in-Split c = one_name _ c.in-Split.is c.in-Split.j refl

pub returns-in-Compatible : goal.returns-in-Compatible
returns-in-Compatible c = two_names _ c.in-Compatible.is c.in-Compatible.u c.in-Compatible.j refl
