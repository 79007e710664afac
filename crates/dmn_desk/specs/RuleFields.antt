-- What the refusal by a rule tells, behind the rule's number and the transaction's place.
use Rattle.std.specs.Prelude.{ℕ, List, [], ◌∷◌, ◌++◌}
use Rattle.std.specs.Int.{w16, w32, to_le_bytes}
use Rattle.dmn_rows.specs.declared.rule.Rule.{Rule}
use Rattle.dmn_rows.specs.declared.rule.Rule.TheVariants.{HashKnown, NotNext, BadMerkle, VerdictForm, CbVersion, CbHeight, UnknownType, PayloadVersion, PayloadForm, DupOwner, DupOperator, DupAddress, UpDupAddress, UpDupOperator, QuorumVersion, QuorumType, QuorumHeight, QuorumBase, VerdictOther, QuorumMissing, CbRoot}
use Rattle.dmn_rows.specs.declared.rule.Rule.TheVariants.{ZeroHash, HeightLimit, NoCoinbase, SecondCoinbase, DuplicateTx, CbPayload, InputsHash, RegType, RegMode, NullKey, PayoutForm, PayoutKey, RewardRange, AddressForm, SigPresence, CollateralIndex, CollateralValue, CollateralScript, CollateralUnknown, CollateralKeyless, CollateralKey, NoRow, UpAddress, OperatorPayoutForm, OperatorPayoutUnasked, NoOperator, UpMode, UpNullKey, UpPayoutForm, UpPayoutKey, UpCollateralKey, RevokeReason, QuorumWindow, QuorumSecond, QuorumDone, QuorumBits, QuorumFew, VerdictMissing, VerdictNo, TooManyChanges, TooManyMasternodes, TooManyOutputs}

unfoldable pub rule_fields : Rule → List ℕ
rule_fields (HashKnown height) = to_le_bytes w32 height
rule_fields (NotNext tip) = tip.0
rule_fields (BadMerkle computed) = computed.0
rule_fields (VerdictForm position) = to_le_bytes w32 position
rule_fields (CbVersion found) = to_le_bytes w16 found
rule_fields (CbHeight found) = to_le_bytes w32 found
rule_fields (UnknownType found) = to_le_bytes w16 found
rule_fields (PayloadVersion found) = to_le_bytes w16 found
rule_fields (PayloadForm place) = to_le_bytes w32 place
rule_fields (DupOwner row) = row.0
rule_fields (DupOperator row) = row.0
rule_fields (DupAddress row) = row.0
rule_fields (UpDupAddress row) = row.0
rule_fields (UpDupOperator row) = row.0
rule_fields (QuorumVersion found) = to_le_bytes w16 found
rule_fields (QuorumType found) = found ∷ []
rule_fields (QuorumHeight found) = to_le_bytes w32 found
rule_fields (QuorumBase base) = base.0
rule_fields (VerdictOther wanted) = wanted.0
rule_fields (QuorumMissing kind) = kind ∷ []
rule_fields (CbRoot committed computed) = committed.0 ++ computed.0
rule_fields ZeroHash = []
rule_fields HeightLimit = []
rule_fields NoCoinbase = []
rule_fields SecondCoinbase = []
rule_fields DuplicateTx = []
rule_fields CbPayload = []
rule_fields InputsHash = []
rule_fields RegType = []
rule_fields RegMode = []
rule_fields NullKey = []
rule_fields PayoutForm = []
rule_fields PayoutKey = []
rule_fields RewardRange = []
rule_fields AddressForm = []
rule_fields SigPresence = []
rule_fields CollateralIndex = []
rule_fields CollateralValue = []
rule_fields CollateralScript = []
rule_fields CollateralUnknown = []
rule_fields CollateralKeyless = []
rule_fields CollateralKey = []
rule_fields NoRow = []
rule_fields UpAddress = []
rule_fields OperatorPayoutForm = []
rule_fields OperatorPayoutUnasked = []
rule_fields NoOperator = []
rule_fields UpMode = []
rule_fields UpNullKey = []
rule_fields UpPayoutForm = []
rule_fields UpPayoutKey = []
rule_fields UpCollateralKey = []
rule_fields RevokeReason = []
rule_fields QuorumWindow = []
rule_fields QuorumSecond = []
rule_fields QuorumDone = []
rule_fields QuorumBits = []
rule_fields QuorumFew = []
rule_fields VerdictMissing = []
rule_fields VerdictNo = []
rule_fields TooManyChanges = []
rule_fields TooManyMasternodes = []
rule_fields TooManyOutputs = []
