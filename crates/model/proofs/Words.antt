-- The first words of seed 0, as the generator's reference has them. Assumes nothing.
use Rattle.std.proofs.Common.{◌≡◌, refl}
use Rattle.model.specs.Seeds.{seeded_word}

pub first_word : seeded_word 0 0 0 ≡ 0xE220A8397B1DCDAF
first_word = refl

pub second_word : seeded_word 0 0 1 ≡ 0x6E789E6AA1B965F4
second_word = refl

pub third_word : seeded_word 0 0 2 ≡ 0x06C45D188009454F
third_word = refl
