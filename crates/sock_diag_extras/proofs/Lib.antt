mod BitFields
