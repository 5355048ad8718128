-- The packets that the code keeps of records.
use Rattle.std.specs.Prelude.{◌≡◌, ◌<◌, length, All}
use Rattle.header_extract.specs.Class.{FrameClass}
use Rattle.header_extract.specs.Extracted.{key_len}

-- The key of the packet is as long as its class says, and of bytes.
pub record IsPacket (packet : FrameClass) : Type 0 where
  pub bytes : All (λ byte. byte < 256) packet.key
  pub len : length packet.key ≡ key_len packet.class
