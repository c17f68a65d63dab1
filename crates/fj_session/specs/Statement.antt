-- What each kind of question means.
use Rattle.std.specs.Prelude.{◌^◌, length}
use Rattle.fj_coeff.specs.Field.{Field}
use Rattle.fj_plain.specs.declared.order_name.OrderName.{OrderName}
use Rattle.fj_script.specs.declared.question.Question.{Question}
use Rattle.fj_script.specs.declared.question.Question.TheVariants as questions
use Rattle.fj_script.specs.declared.script.Env.{Env}
use Rattle.fj_shell.specs.Named.{point_at, polynomial_at}
use Rattle.fj_session.specs.Standing.{Values, standing_at}
use Rattle.fj_session.specs.Ideals.{meaning_of_basis, meaning_of_colon, meaning_of_meet, meaning_of_member, meaning_of_power, meaning_of_product, meaning_of_root, meaning_of_same, meaning_of_sum}
use Rattle.fj_session.specs.Jumps.{meaning_of_jumps}
use Rattle.fj_session.specs.Limits.{meaning_of_is_jump, meaning_of_left, meaning_of_regular, meaning_of_test}
use Rattle.fj_session.specs.Thresholds.{meaning_of_nu, meaning_of_threshold, meaning_of_threshold_at}
use Rattle.fj_session.specs.Meaning.{Meaning, meaning_of_parts}
use Rattle.fj_session.specs.Splittings.{meaning_of_compatible, meaning_of_pure, meaning_of_pure_at, meaning_of_split}

-- What the question means for this printing order, where the lets have these values.
abbrev pub meaning_of : Field → Env → Values → OrderName → Question → Meaning
meaning_of F env V printing (questions.Parts e f) = meaning_of_parts F printing e (polynomial_at env f)
meaning_of F env V printing (questions.Basis j) = meaning_of_basis F printing (standing_at env V j)
meaning_of F env V printing (questions.Member f j) = meaning_of_member F (polynomial_at env f) (standing_at env V j)
meaning_of F env V printing (questions.Same j k) = meaning_of_same F (standing_at env V j) (standing_at env V k)
meaning_of F env V printing (questions.Sum j k) = meaning_of_sum F printing (standing_at env V j) (standing_at env V k)
meaning_of F env V printing (questions.Product j k) = meaning_of_product F printing (standing_at env V j) (standing_at env V k)
meaning_of F env V printing (questions.Meet j k) = meaning_of_meet F printing (standing_at env V j) (standing_at env V k)
meaning_of F env V printing (questions.Colon j k) = meaning_of_colon F printing (standing_at env V j) (standing_at env V k)
meaning_of F env V printing (questions.Power e j) = meaning_of_power F printing (F.characteristic ^ e) (standing_at env V j)
meaning_of F env V printing (questions.Root e j) = meaning_of_root F printing e (standing_at env V j)
meaning_of F env V printing (questions.Test f t) = meaning_of_test F printing (polynomial_at env f) t
meaning_of F env V printing (questions.Left f t) = meaning_of_left F printing (polynomial_at env f) t
meaning_of F env V printing (questions.IsJump f t) = meaning_of_is_jump F (polynomial_at env f) t
meaning_of F env V printing (questions.Regular f t) = meaning_of_regular F (polynomial_at env f) t
meaning_of F env V printing (questions.Jumps f e) = meaning_of_jumps F printing (polynomial_at env f) e
meaning_of F env V printing (questions.Nu e f j) = meaning_of_nu F e (polynomial_at env f) (standing_at env V j)
meaning_of F env V printing (questions.Threshold f j e) = meaning_of_threshold F e (polynomial_at env f) (standing_at env V j)
meaning_of F env V printing (questions.ThresholdAt f at e) = meaning_of_threshold_at F e (polynomial_at env f) (length env.vars) (point_at env at)
meaning_of F env V printing (questions.Pure j) = meaning_of_pure F (standing_at env V j)
meaning_of F env V printing (questions.PureAt j at) = meaning_of_pure_at F (standing_at env V j) (point_at env at)
meaning_of F env V printing (questions.Split j) = meaning_of_split F printing (standing_at env V j)
meaning_of F env V printing (questions.Compatible e u j) = meaning_of_compatible F e (polynomial_at env u) (standing_at env V j)
