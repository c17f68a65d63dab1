use Rattle.std.proofs.Common.{codes, arith, refl}
use Rattle.std.proofs.lemmas.Slice.Eq.{text_from_reads}
use Rattle.fj_script.specs.Question.{ask_of}
use Rattle.fj_script.proofs.ask.ask_of.Goals as goal

pub returns-in-parts : goal.returns-in-parts
unfolding ask_of
returns-in-parts c = rw (text_from_reads c.args.word.now (codes "parts") (omega arith) (omega arith, (omega arith, (omega arith, (omega arith, (omega arith, tt)))))) refl

pub returns-in-power : goal.returns-in-power
unfolding ask_of
returns-in-power c = rw (text_from_reads c.args.word.now (codes "power") (omega arith) (omega arith, (omega arith, (omega arith, (omega arith, (omega arith, tt)))))) refl

pub returns-in-basis : goal.returns-in-basis
unfolding ask_of
returns-in-basis c = rw (text_from_reads c.args.word.now (codes "basis") (omega arith) (omega arith, (omega arith, (omega arith, (omega arith, (omega arith, tt)))))) refl

pub returns-in-colon : goal.returns-in-colon
unfolding ask_of
returns-in-colon c = rw (text_from_reads c.args.word.now (codes "colon") (omega arith) (omega arith, (omega arith, (omega arith, (omega arith, (omega arith, tt)))))) refl

pub returns-in-jumps : goal.returns-in-jumps
unfolding ask_of
returns-in-jumps c = rw (text_from_reads c.args.word.now (codes "jumps") (omega arith) (omega arith, (omega arith, (omega arith, (omega arith, (omega arith, tt)))))) refl

pub returns-in-fpure : goal.returns-in-fpure
unfolding ask_of
returns-in-fpure c = rw (text_from_reads c.args.word.now (codes "fpure") (omega arith) (omega arith, (omega arith, (omega arith, (omega arith, (omega arith, tt)))))) refl

pub returns-in-split : goal.returns-in-split
unfolding ask_of
returns-in-split c = rw (text_from_reads c.args.word.now (codes "split") (omega arith) (omega arith, (omega arith, (omega arith, (omega arith, (omega arith, tt)))))) refl

pub returns-in-member : goal.returns-in-member
unfolding ask_of
returns-in-member c = rw (text_from_reads c.args.word.now (codes "member") (omega arith) (omega arith, (omega arith, (omega arith, (omega arith, (omega arith, (omega arith, tt))))))) refl

pub returns-in-isjump : goal.returns-in-isjump
unfolding ask_of
returns-in-isjump c = rw (text_from_reads c.args.word.now (codes "isjump") (omega arith) (omega arith, (omega arith, (omega arith, (omega arith, (omega arith, (omega arith, tt))))))) refl

pub returns-in-product : goal.returns-in-product
unfolding ask_of
returns-in-product c = rw (text_from_reads c.args.word.now (codes "product") (omega arith) (omega arith, (omega arith, (omega arith, (omega arith, (omega arith, (omega arith, (omega arith, tt)))))))) refl

pub returns-in-regular : goal.returns-in-regular
unfolding ask_of
returns-in-regular c = rw (text_from_reads c.args.word.now (codes "regular") (omega arith) (omega arith, (omega arith, (omega arith, (omega arith, (omega arith, (omega arith, (omega arith, tt)))))))) refl

pub returns-in-threshold : goal.returns-in-threshold
unfolding ask_of
returns-in-threshold c = rw (text_from_reads c.args.word.now (codes "threshold") (omega arith) (omega arith, (omega arith, (omega arith, (omega arith, (omega arith, (omega arith, (omega arith, (omega arith, (omega arith, tt)))))))))) refl

pub returns-in-compatible : goal.returns-in-compatible
unfolding ask_of
returns-in-compatible c = rw (text_from_reads c.args.word.now (codes "compatible") (omega arith) (omega arith, (omega arith, (omega arith, (omega arith, (omega arith, (omega arith, (omega arith, (omega arith, (omega arith, (omega arith, tt))))))))))) refl
