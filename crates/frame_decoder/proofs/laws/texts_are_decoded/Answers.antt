use Rattle.frame_decoder.proofs.Decoding.{part_decoded, texts_decoded}
use Rattle.frame_decoder.proofs.laws.texts_are_decoded.Goals as goal

pub returns-clause-all : goal.returns-clause-all
returns-clause-all c = texts_decoded

pub returns-clause-part : goal.returns-clause-part
returns-clause-part c = λ version frames front each part. part_decoded version frames part.sent front part.rest each part.fits part.whole part.short
