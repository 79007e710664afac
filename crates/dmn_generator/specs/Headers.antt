-- The header of a block, as the code holds it.
use Rattle.dmn_block.specs.declared.body.Header as blocks
use Rattle.dmn_generator.specs.declared.blocks.Header.{Header}

abbrev pub header_of : Header → blocks.Header
header_of head = record { version = head.version; prev = head.prev; merkle = head.merkle; time = head.time; bits = head.bits; nonce = head.nonce }
